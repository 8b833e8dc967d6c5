-- A search folder that moves leaves the tree whole.
use Rattle.std.proofs.Common.{◌≡◌, ◌∙◌, ℕ, ◌%◌, ◌==◌, Bool, true, false, List, [], ◌∷◌, filter, Option, Some, IsSome, ap, arith, refl, subst, sym, inl, inr, IfOk, None}
use Rattle.std.proofs.lemmas.Bool.{cases_Bool, cases_eq, eqb-false, false≢true}
use Rattle.std.proofs.lemmas.Option.{same_Some}
use Rattle.mapi_values.specs.Characters.{folded}
use Rattle.mapi_values.specs.Keyed.{put_key}
use Rattle.mapi_values.specs.Tables.{drop_row, find_row}
use Rattle.mapi_values.proofs.KeyedLaws.{drop-ascends, put-ascends}
use Rattle.command_text.specs.declared.reply.LastLine.TheVariants.{Done}
use Rattle.mail_objects.specs.Forms.{Ctx, Tbl}
use Rattle.mail_objects.specs.declared.object.Object.{Object}
use Rattle.mail_objects.specs.declared.object.Object.TheVariants.{Context, Table, Message}
use Rattle.mail_tree.specs.declared.places.FolderPlace.{FolderPlace}
use Rattle.mail_tree.specs.Changing.{Answer, Changed, ◌>>=◌, add_shown, drop_shown, hierarchy, nothing, now_at, with_object, with_rows}
use Rattle.mail_tree.specs.Folders.{Outcome, moved_between, replied, unchanged, unless_named, unless_protected}
use Rattle.mail_tree.specs.Places.{ROOT, children, find_place, is_plain, is_within, moves_deep, place_id}
use Rattle.mail_tree.specs.Settling.{settled}
use Rattle.mail_tree.specs.Tree.{Tree}
use Rattle.mail_tree.specs.Values.{name_of}
use Rattle.mail_tree.specs.Whole.{AreWhole, Fine, HasRow, kind_of_sort}
use Rattle.mail_tree.proofs.AfterTree.{puts_object}
use Rattle.mail_tree.proofs.FineLaws.{cases_Option, fine_then, fine_weaker}
use Rattle.mail_tree.proofs.KeyedFinds.{find-drop_other, find-put_other, find-put_same}
use Rattle.mail_tree.proofs.KindsOfPuts.{beside_kind, puts_context, puts_folders, same_table}
use Rattle.mail_tree.proofs.Nearly.{AreNearly, message_id, nearly, table_of}
use Rattle.mail_tree.proofs.Settles.{fine_settled}
use Rattle.mail_laws.proofs.FolderSteps.{EachContext, RowsChange, added_folder, children_of, fine_named, fine_protected}
use Rattle.mail_laws.proofs.MessageSteps.{Before}
use Rattle.mail_searches.specs.Criteria.{search_place}
use Rattle.mail_searches.specs.Moving.{moved_search}
use Rattle.search_laws.proofs.PlainPlaces.{plain_other}
use Rattle.mail_tree.proofs.StoodLaws.{AreStood, IsNew, added_stood, dropped_stood, none_stood, settled_stood, stood_then, values_stood}
use Rattle.mail_laws.proofs.Comparing.{fine_limits}

-- values stand at some of the ids at which they stand
pub each_chosen : (at : ℕ → Option Object) (test : ℕ → Bool) (fs : List ℕ) → EachContext at fs → EachContext at (filter test fs)
each_chosen at test [] each = tt
each_chosen at test (f ∷ fs) each = elim (cases_Bool (test f)) [ inl t ↦ rw t (each.0, each_chosen at test fs each.1) | inr t ↦ rw t (each_chosen at test fs each.1) ]

-- a plain folder's table of folders
table_now : {E : ℕ → Type 0} {places : List FolderPlace} {at : ℕ → Option Object} → AreNearly E places at → (f : ℕ) (p : FolderPlace) → find_place f places ≡ Some p → is_plain p ≡ true → (t : Tbl) × (at (hierarchy f) ≡ Some (Table t))
table_now {at = at} n f p e plain = table_of (hierarchy f) (at (hierarchy f)) (n.typed (hierarchy f)) (inl (beside_kind f 13 (omega arith))) (n.tables f p e plain).0

-- a row goes, of a folder that doesn't matter
dropped_row : (places : List FolderPlace) (T : Tree) (D : Changed) (parent : ℕ) (q : FolderPlace) (s : ℕ) → AreNearly (λ x. x ≡ s) places (now_at T D) → find_place parent places ≡ Some q → is_plain q ≡ true
    → Fine (drop_shown T (hierarchy parent) s D) (λ D'. RowsChange (λ x. x ≡ s) places parent (now_at T D) (now_at T D'))
unfolding drop_shown
dropped_row places T D parent q s n found plain =
    let t = table_now n parent q found plain in
    let t' : Tbl = record { parent = t.0.parent; table = record t.0.table { rows = drop_row s t.0.table.rows } } in
    let puts = puts_object T D (hierarchy parent) (Some (with_rows (drop_row s t.0.table.rows) t.0)) in
    rw t.1 (record {
      nearly_whole = puts_folders (λ x. x ≡ s) places (now_at T D) _ n parent q t' found plain (drop-ascends (λ r. r.0) 0 s t.0.table.rows (n.rows_ascend (hierarchy parent) t.0 t.1))
          (λ g r eg free up has. subst IsSome (sym (find-drop_other (λ r. r.0) g s t.0.table.rows free)) (subst (λ x. IsSome (find_row g x.table.rows)) (same_table has.0 t.0 (sym has.1 ∙ t.1)) has.2)) puts;
      others = puts.others;
    })

-- the places after a search folder moved
module _ (places : List FolderPlace) (s parent : ℕ) where
  abbrev pub shifted : List FolderPlace
  shifted = put_key place_id (search_place s parent) places

  pub shifted_other : (g : ℕ) → (g ≡ s → ⊥) → find_place g shifted ≡ find_place g places
  shifted_other g other = find-put_other place_id g (search_place s parent) places other

  pub shifted_here : find_place s shifted ≡ Some (search_place s parent)
  shifted_here = find-put_same place_id (search_place s parent) places

  pub is_shifted : (g : ℕ) (p : FolderPlace) → g ≡ s → find_place g shifted ≡ Some p → search_place s parent ≡ p
  is_shifted g p same e = same_Some (search_place s parent) p (sym (ap (λ x. find_place x shifted) same ∙ shifted_here) ∙ e)

  pub plain_not_here : (g : ℕ) (p : FolderPlace) → find_place g shifted ≡ Some p → is_plain p ≡ true → g ≡ s → ⊥
  plain_not_here g p e plain same = false≢true (ap is_plain (is_shifted g p same e) ∙ plain)

-- a search folder takes a place in a plain folder that lists it
whole_search : (places : List FolderPlace) (at : ℕ → Option Object) (s parent : ℕ) (q : FolderPlace) → AreNearly (λ x. x ≡ s) places at → s % 32 ≡ 3 → find_place parent places ≡ Some q → is_plain q ≡ true → HasRow (at (hierarchy parent)) s
    → ((c : Ctx) × (at s ≡ Some (Context c)) × (c.parent ≡ parent)) → AreWhole (shifted places s parent) at
whole_search places at s parent q n three eq plain_q row values = record {
  ascend = put-ascends place_id 0 (search_place s parent) places (omega arith) n.ascend;
  root = let r = n.root in (r.0, others ROOT (plain ROOT r.0 r.1 r.2) ∙ r.1, r.2, r.3);
  kinds = λ g p e. elim (cases_eq g s) [
    | inl same ↦ subst (λ (x : FolderPlace). g % 32 ≡ kind_of_sort x.sort) (is_shifted places s parent g p same e) (ap (λ x. x % 32) same ∙ three)
    | inr other ↦ n.kinds g p (was g p other e)
  ];
  parents = λ g p e root. elim (cases_eq g s) [
    | inl same ↦ subst (λ (x : FolderPlace). (r : FolderPlace) × (find_place x.parent.bits (shifted places s parent) ≡ Some r) × (is_plain r ≡ true) × HasRow (at (hierarchy x.parent.bits)) g) (is_shifted places s parent g p same e)
        (q, others parent (plain parent q eq plain_q) ∙ eq, plain_q, subst (λ x. HasRow (at (hierarchy parent)) x) (sym same) row)
    | inr other ↦ let v = n.parents g p (was g p other e) root other in (v.0, others p.parent.bits (plain p.parent.bits v.0 v.1 v.2) ∙ v.1, v.2, v.3)
  ];
  typed = n.typed;
  rows_ascend = n.rows_ascend;
  store = n.store;
  names = n.names;
  contexts = λ g p e. elim (cases_eq g s) [
    | inl same ↦ (values.0, ap at same ∙ values.1, λ root. values.2 ∙ ap (λ (x : FolderPlace). x.parent.bits) (is_shifted places s parent g p same e))
    | inr other ↦ let v = n.contexts g p (was g p other e) in (v.0, v.1, λ root. v.2 root other)
  ];
  tables = λ g p e is_plain. n.tables g p (was g p (plain_not_here places s parent g p e is_plain) e) is_plain;
  listed = λ g p t m e is_plain at_t row_m four. n.listed g p t m (was g p (plain_not_here places s parent g p e is_plain) e) is_plain at_t row_m four (λ same. omega arith);
  held = λ m M is.
      let four = (message_id m M (n.typed m (Message M) is)).0 in
      let v = n.held m M is (λ same. omega arith) in
      (v.0, others M.folder (plain M.folder v.0 v.1 v.2) ∙ v.1, v.2, v.3);
}
  where
    others : (g : ℕ) → (g ≡ s → ⊥) → find_place g (shifted places s parent) ≡ find_place g places
    others g other = shifted_other places s parent g other

    was : (g : ℕ) (p : FolderPlace) → (g ≡ s → ⊥) → find_place g (shifted places s parent) ≡ Some p → find_place g places ≡ Some p
    was g p other e = sym (others g other) ∙ e

    plain : (g : ℕ) (p : FolderPlace) → find_place g places ≡ Some p → is_plain p ≡ true → g ≡ s → ⊥
    plain g p e is = plain_other n s three g p e is

-- the values of a search that stands in another folder now
abbrev pub in_parent : ℕ → Ctx → Ctx
in_parent parent c = record c { parent = parent }

abbrev pub with_parent : ℕ → ℕ → Ctx → Changed
with_parent s parent c = with_object s (Some (Context (in_parent parent c))) nothing

-- its row goes in one folder and comes in another, and both are counted anew
abbrev pub shifting : Tree → ℕ → Ctx → ℕ → ℕ → Answer Changed
shifting T s c from to = drop_shown T (hierarchy from) s (with_parent s to c) >>= λ D. add_shown T (hierarchy to) s c.props D >>= settled T (shifted T.places s to) from >>= settled T (shifted T.places s to) to

module _ (T : Tree) (s to : ℕ) (p r : FolderPlace) (w : Before T) (three : s % 32 ≡ 3) (found : find_place s T.places ≡ Some p) (at_to : find_place to T.places ≡ Some r) (plain_to : is_plain r ≡ true) where
  abbrev LeavesIn : Changed → Type 0
  LeavesIn D = AreWhole (shifted T.places s to) (now_at T D)

  other : (g : ℕ) (q : FolderPlace) → find_place g T.places ≡ Some q → is_plain q ≡ true → g ≡ s → ⊥
  other g q e plain = plain_other (nearly (λ x. ⊥) T.places (now_at T nothing) w) s three g q e plain

  pub fine_shifting : (s ≡ ROOT → ⊥) → Fine (shifting T s (w.contexts s p found).0 p.parent.bits to) LeavesIn
  fine_shifting no_root =
      let places = shifted T.places s to in
      let c = w.contexts s p found in
      let from = p.parent.bits in
      let v = w.parents s p found no_root in
      let c' = in_parent to c.0 in
      let D = with_parent s to c.0 in
      let puts = puts_object T nothing s (Some (Context c')) in
      let n = puts_context (λ x. x ≡ s) T.places (now_at T nothing) (now_at T D) (nearly (λ x. x ≡ s) T.places (now_at T nothing) w) s p c' found (λ root free. absurd (free refl)) puts in
      let from_there : find_place from places ≡ Some v.0 = shifted_other T.places s to from (other from v.0 v.1 v.2) ∙ v.1 in
      let to_there : find_place to places ≡ Some r = shifted_other T.places s to to (other to r at_to plain_to) ∙ at_to in
      let values : Changed → Type 0 = λ D'. (x : Ctx) × (now_at T D' s ≡ Some (Context x)) × (x.parent ≡ to) in
      let apart : (g : ℕ) → s ≡ hierarchy g → ⊥ = λ g e. omega (arith, three, e, beside_kind g 13 (omega arith)) in
      fine_then (λ D'. AreNearly (λ x. x ≡ s) T.places (now_at T D') × values D') LeavesIn (drop_shown T (hierarchy from) s D) _
      (fine_weaker _ (λ D'. AreNearly (λ x. x ≡ s) T.places (now_at T D') × values D') (drop_shown T (hierarchy from) s D) (dropped_row T.places T D from v.0 s n v.1 v.2)
      (λ D1 d. (d.nearly_whole, (c', d.others s (apart from) ∙ puts.here, refl))))
      (λ D1 d. fine_then LeavesIn LeavesIn (add_shown T (hierarchy to) s c.0.props D1 >>= settled T places from) (settled T places to)
      (fine_then LeavesIn LeavesIn (add_shown T (hierarchy to) s c.0.props D1) (settled T places from)
      (fine_weaker _ LeavesIn (add_shown T (hierarchy to) s c.0.props D1) (added_folder (λ x. x ≡ s) T.places T D1 to r s c.0.props d.0 at_to plain_to)
      (λ D2 a. whole_search T.places (now_at T D2) s to r a.0.nearly_whole three at_to plain_to a.1 (d.1.0, a.0.others s (apart to) ∙ d.1.1, d.1.2)))
      (λ D2 x. fine_settled T places from v.0 D2 x from_there v.2))
      (λ D3 x. fine_settled T places to r D3 x to_there plain_to))

shifting_stood : (T : Tree) (s : ℕ) (c : Ctx) (from to : ℕ) → now_at T nothing s ≡ Some (Context c) → IfOk (shifting T s c from to) (AreStood T (IsNew None))
shifting_stood T s c from to is =
    let New = IsNew None in let places = shifted T.places s to in
    stood_then (drop_shown T (hierarchy from) s (with_parent s to c)) (λ D. add_shown T (hierarchy to) s c.props D >>= settled T places from >>= settled T places to)
    (dropped_stood T New (hierarchy from) s _ (values_stood T New s c (in_parent to c) nothing (none_stood T New) is))
    (λ D k. stood_then (add_shown T (hierarchy to) s c.props D >>= settled T places from) (settled T places to)
    (stood_then (add_shown T (hierarchy to) s c.props D) (settled T places from) (added_stood T New (hierarchy to) s c.props D k) (λ D' j. settled_stood T New places from D' j)) (λ D' j. settled_stood T New places to D' j))

-- what `mvdir` comes to
abbrev pub shifted_outcome : Tree → ℕ → ℕ → Changed → Outcome
shifted_outcome T s to D = record { changed = D; places = shifted T.places s to; last = T.last; reply = replied Done }

-- `mvdir` of a search folder: nothing changes where it stands there already, and else it is shifted to a plain folder
pub fine_shifted : (T : Tree) (s to : ℕ) (p : FolderPlace) (Q : Outcome → Type 0) (w : Before T) → s % 32 ≡ 3 → (found : find_place s T.places ≡ Some p) → Q (unchanged T (replied Done))
    → ((r : FolderPlace) → find_place to T.places ≡ Some r → is_plain r ≡ true → (p.parent.bits ≡ to → ⊥) → is_within T.places s to ≡ false → moves_deep T.places s to ≡ false
    → Fine (shifting T s (w.contexts s p found).0 p.parent.bits to) (λ D. Q (shifted_outcome T s to D)))
    → Fine (moved_search T s to) Q
unfolding moved_search moved_between
fine_shifted T s to p Q w three found same moves = rw found (elim (cases_Option (find_place to T.places)) [
  | inl e ↦ rw e tt
  | inr r ↦ rw r.1 (elim (cases_Bool (is_plain r.0)) [
    | inr plain ↦ rw plain tt
    | inl plain ↦ rw plain (fine_then _ Q (unless_protected T s) _ (fine_protected T s w) (λ u no_root. elim (cases_Bool (is_within T.places s to)) [
      | inl b ↦ rw b tt
      | inr out ↦ rw out (elim (cases_Bool (p.parent.bits == to)) [
        | inl b ↦ rw b same
        | inr b ↦
            let c = w.contexts s p found in
            rw (b, c.1) (fine_then (λ x. Unit {0}) Q (unless_named T (folded false (name_of c.0.props)) (children to T.places)) _ (fine_named T (folded false (name_of c.0.props)) (children to T.places) (children_of w to)) (λ x x'.
            elim (cases_Bool (moves_deep T.places s to)) [
              | inl d ↦ rw d tt
              | inr deep ↦ rw deep (fine_limits (λ D. Q (shifted_outcome T s to D)) Q T None (shifting T s c.0 p.parent.bits to) _
                  (moves r.0 r.1 plain (eqb-false p.parent.bits to b) out deep) (shifting_stood T s c.0 p.parent.bits to c.1) (λ D k. k))
            ]))
      ])
    ]))
  ])
])
