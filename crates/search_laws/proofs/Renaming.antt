-- `rename` of an own search folder leaves all in order.
use Rattle.std.proofs.Common.{◌≡◌, ◌∙◌, ℕ, ◌%◌, Bool, true, false, List, Some, IsSome, IfOk, ap, arith, refl, subst, sym, inr, None}
use Rattle.std.proofs.lemmas.Bool.{ne_eqb}
use Rattle.mapi_values.specs.Characters.{folded}
use Rattle.mapi_values.specs.Properties.{put}
use Rattle.mapi_values.specs.Values.{Val}
use Rattle.command_text.specs.declared.reply.LastLine.TheVariants.{Done}
use Rattle.mail_objects.specs.Forms.{Ctx}
use Rattle.mail_objects.specs.declared.object.Object.TheVariants.{Context}
use Rattle.mail_tree.specs.declared.places.FolderPlace.{FolderPlace}
use Rattle.mail_tree.specs.Changing.{Changed, nothing, now_at}
use Rattle.mail_tree.specs.Folders.{Outcome, nid, replied, siblings, unless_named, unless_protected}
use Rattle.mail_tree.specs.Found.{IsFoundBeside}
use Rattle.mail_tree.specs.Places.{ROOT, children, find_place}
use Rattle.mail_tree.specs.Settling.{mirrored, with_context}
use Rattle.mail_tree.specs.Tree.{Tree, object_at}
use Rattle.mail_tree.specs.Values.{text}
use Rattle.mail_tree.specs.Whole.{AreWhole, Fine}
use Rattle.mail_tree.proofs.AfterTree.{puts_object}
use Rattle.mail_tree.proofs.FineLaws.{fine_then}
use Rattle.mail_tree.proofs.KindsOfPuts.{beside_kind}
use Rattle.mail_tree.proofs.Nearly.{folder_kind, nearly}
use Rattle.mail_tree.proofs.Settles.{fine_mirrored, other_values}
use Rattle.mail_laws.specs.Laws.{AreCountedBut, Counts, Mirrors}
use Rattle.mail_laws.proofs.CountSteps.{counted_put, mirrored_counts}
use Rattle.mail_laws.proofs.FolderSteps.{children_of, fine_named, fine_protected}
use Rattle.mail_laws.proofs.FoundSteps.{Finds, Names, PlainIds, finds_elsewhere, finds_put, some_belongs}
use Rattle.mail_laws.proofs.Keeping.{KeepsAt, mirrored_keeps}
use Rattle.mail_laws.proofs.LawSteps.{before}
use Rattle.mail_laws.proofs.MessageSteps.{Before}
use Rattle.mail_laws.proofs.MirrorPuts.{AreShownBut, FolderIds}
use Rattle.mail_laws.proofs.MirrorSteps.{context_opens, mirrored_shows}
use Rattle.mail_laws.proofs.PlaceEffects.{found_id}
use Rattle.mail_searches.specs.Criteria.{staying}
use Rattle.mail_searches.specs.Moving.{renamed_search}
use Rattle.mail_searches.specs.Searching.{IsOfSearch, Searching, is_own}
use Rattle.mail_searches.specs.Step.{after}
use Rattle.search_lists.specs.Order.{InOrder}
use Rattle.search_lists.proofs.ResultSteps.{if_given}
use Rattle.search_lists.proofs.ShowLaws.{tells-named, tells-now-as}
use Rattle.search_laws.specs.Laws.{RenamesInOrder}
use Rattle.search_laws.proofs.OwnShift.{Shifts, finds_before, in_order, same_searches}
use Rattle.search_laws.proofs.OwnSteps.{IsQuietId, counted_before, no_hierarchy, shown_before, fine_with, if_four, no_root, now_before, place_of}
use Rattle.search_laws.proofs.PlainPlaces.{plain_other, foreign_sort, plain_ids}
use Rattle.search_laws.proofs.ShiftingFound.{foreign_named}
use Rattle.search_laws.proofs.ShiftingTree.{each_chosen}
use Rattle.mail_tree.proofs.StoodLaws.{IsNew}
use Rattle.mail_laws.proofs.Comparing.{fine_limits, renamed_stood}

-- what the changes come to
abbrev renamed_outcome : Tree → Changed → Outcome
renamed_outcome T D = record { changed = D; places = T.places; last = T.last; reply = replied Done }

module _ (T : Tree) (s : ℕ) (name : List ℕ) (p : FolderPlace) (w : Before T) (three : s % 32 ≡ 3) (found : find_place s T.places ≡ Some p) where
  old : (c : Ctx) × (now_at T nothing s ≡ Some (Context c)) × ((s ≡ ROOT → ⊥) → c.parent ≡ p.parent.bits)
  old = w.contexts s p found

  abbrev props : List Val
  props = put (text 0x3001 name) old.0.props

  abbrev new : Ctx
  new = record old.0 { props = props }

  abbrev D : Changed
  D = with_context s old.0 props nothing

  -- the row that shows the search is put anew
  renamed_by : (Q : Outcome → Type 0) → Fine (mirrored T s D) (λ D'. Q (renamed_outcome T D')) → Fine (renamed_search T s name) Q
  unfolding renamed_search
  renamed_by Q h =
      let brothers = siblings T p.parent.bits s in
      rw found (fine_then _ Q (unless_protected T s) _ (fine_protected T s w) (λ u u'.
      fine_then (λ v. Unit {0}) Q (unless_named T (folded false name) brothers) _ (fine_named T (folded false name) brothers (each_chosen (now_at T nothing) _ (children p.parent.bits T.places) (children_of w p.parent.bits))) (λ v v'.
      rw old.1 (fine_limits (λ D'. Q (renamed_outcome T D')) Q T None (mirrored T s D) _ h (renamed_stood T (IsNew None) s old.0 props old.1) (λ D' k. k)))))

  fine_row : Fine (mirrored T s D) (λ D'. AreWhole T.places (now_at T D'))
  fine_row = fine_mirrored T T.places s p D (other_values T T.places s p nothing w found old.0 props old.1) found

  folder_ids : FolderIds T.places
  folder_ids g q e = folder_kind q.sort g (w.kinds g q e)

  ids : PlainIds T.places
  ids = plain_ids T.places (now_at T nothing) w

  -- its row names it
  named_there : (s ≡ ROOT → ⊥) → Names T T.places p.parent.bits s
  named_there root sort named =
      let at_id : p.nid.bits ≡ s = found_id s T.places p found in
      let same : p.sort ≡ sort = foreign_sort p.sort (sym (w.kinds s p found) ∙ three) ∙ foreign_named T s sort three named in
      let one : p ≡ record { nid = nid s; parent = nid p.parent.bits; sort = sort } = λ i. record { nid = record { bits = at_id i }; parent = record { bits = p.parent.bits }; sort = same i } in
      (root, found ∙ ap (λ (x : FolderPlace). Some x) one)

  finds_row : (beside : ℕ → Type 0) → IsFoundBeside beside T → (s ≡ ROOT → ⊥) → IfOk (mirrored T s D) (Finds beside T T.places)
  unfolding mirrored
  finds_row beside h root =
      let puts = puts_object T nothing s (Some (Context new)) in
      let up = old.2 root in
      let v = w.parents s p found root in
      let two : old.0.parent % 32 ≡ 2 = ap (λ x. x % 32) up ∙ (ids p.parent.bits v.0 v.1 v.2).0 in
      let start = finds_elsewhere beside T T.places ids nothing D s (Some (Context new)) (finds_before beside T w h) puts (λ e. omega (arith, e, three)) (λ e. omega (arith, e, three))
      (some_belongs beside T.places s (Context new) (inr (inr (inr (subst IsSome (sym found) refl))))) in
      rw (ne_eqb s ROOT root, puts.here) (finds_put beside T T.places ids D old.0.parent s props two start (subst (λ x. Names T T.places x s) (sym up) (named_there root)))

  shown_row : Mirrors T → IfOk (mirrored T s D) (λ D'. AreShownBut (λ x. ⊥) T.places (now_at T D'))
  shown_row m = let o = context_opens T T.places folder_ids nothing s old.0 props (inr three) (shown_before T m) in mirrored_shows T T.places folder_ids D s new (inr three) o.0 o.1

  counted_row : Counts T → IfOk (mirrored T s D) (λ D'. AreCountedBut (λ x. ⊥) T.places (now_at T D'))
  counted_row k = mirrored_counts T T.places (λ g q e plain. (ids g q e plain).0) (λ x. ⊥) D s (counted_put (λ x. ⊥) T.places (now_at T nothing) (now_at T D) s (Some (Context new)) (counted_before T k)
      (puts_object T nothing s (Some (Context new)))
      (λ f q c e plain free same is. absurd (omega (arith, three, same, (ids f q e plain).0)))
      (λ f q e plain free same. omega (arith, three, same, beside_kind f 14 (omega arith)))
      (λ f q t e plain free is row four. omega (arith, three, four)))

module _ (tidy : Bool) (X : Searching) (s : ℕ) (name : List ℕ) (h : InOrder tidy X) (own : is_own X.own s ≡ true) where
  abbrev T' : Tree
  T' = X.tree

  kind : s % 32 ≡ 3
  kind = h.searches.kinds s own

  whole : Before T'
  whole = before T' h.whole

  at : (p : FolderPlace) × (find_place s T'.places ≡ Some p)
  at = place_of T'.places s (h.searches.placed s own)

  abbrev first : Changed
  first = D T' s name at.0 whole kind at.1

  shifts : IfOk (mirrored T' s first) (λ D'. Shifts tidy X s (renamed_outcome T' D'))
  shifts =
      let root = no_root s kind in
      let c = old T' s name at.0 whole kind at.1 in
      let values = props T' s name at.0 whole kind at.1 in
      let Shown : Changed → Type 0 = λ D'. AreShownBut (λ x. ⊥) T'.places (now_at T' D') in
      let Counted : Changed → Type 0 = λ D'. AreCountedBut (λ x. ⊥) T'.places (now_at T' D') in
      if_four (KeepsAt IsQuietId T' first) (Finds (IsOfSearch X.own) T' T'.places) (λ D'. tidy ≡ true → Shown D') (λ D'. tidy ≡ true → Counted D') (λ D'. Shifts tidy X s (renamed_outcome T' D')) (mirrored T' s first)
      (mirrored_keeps IsQuietId no_hierarchy T' s first) (finds_row T' s name at.0 whole kind at.1 (IsOfSearch X.own) h.found root)
      (if_given (tidy ≡ true) Shown (mirrored T' s first) (λ t. shown_row T' s name at.0 whole kind at.1 (h.mirrors t))) (if_given (tidy ≡ true) Counted (mirrored T' s first) (λ t. counted_row T' s name at.0 whole kind at.1 (h.counts t)))
      (λ D' kept finds shown counted. record {
        kept = λ q quiet other. kept q quiet ∙ (puts_object T' nothing s (Some (Context (record c.0 { props = values })))).others q other ∙ now_before T' q;
        values = λ x at.
            let stays : now_at T' D' s ≡ Some (Context (record c.0 { props = values })) = kept s ((λ e. omega (arith, e, kind)), (λ e. omega (arith, e, kind))) ∙ (puts_object T' nothing s (Some (Context (record c.0 { props = values })))).here in
            tells-now-as (object_at T' s) (now_at T' D' s) c.0 (record c.0 { props = values }) x (sym (now_before T' s) ∙ c.1) (λ ms told. tells-named ms name c.0.props told) stays at;
        here = h.searches.placed s own;
        others = λ g other. refl;
        foreign = λ g q e plain. plain_other (nearly (λ x. ⊥) T'.places (now_at T' nothing) whole) s kind g q e plain;
        finds = finds;
        reached = h.found.reached;
        shown = shown;
        counted = counted;
      })

  renames : Fine (renamed_search T' s name) (λ o. InOrder tidy (after X (same_searches X o)))
  renames = renamed_by T' s name at.0 whole kind at.1 (λ o. InOrder tidy (after X (same_searches X o)))
      (fine_with (λ D'. AreWhole T'.places (now_at T' D')) (λ D'. Shifts tidy X s (renamed_outcome T' D')) (λ D'. InOrder tidy (after X (same_searches X (renamed_outcome T' D')))) (mirrored T' s first) (fine_row T' s name at.0 whole kind at.1) shifts
      (λ D' w' k. in_order tidy X s h own (renamed_outcome T' D') w' k))

pub renames_in_order : RenamesInOrder
renames_in_order tidy X s name h own = fine_then (λ o. InOrder tidy (after X (same_searches X o))) (λ c. InOrder tidy (after X c)) (renamed_search X.tree s name) (staying X) (renames tidy X s name h own) (λ o k. k)
