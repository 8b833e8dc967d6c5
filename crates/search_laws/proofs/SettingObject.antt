-- What an object of criteria that gets other values leaves of a tree.
use Rattle.std.proofs.Common.{◌≡◌, ◌∙◌, ℕ, ◌%◌, ◌==◌, ◌&&◌, Bool, true, false, cond, List, filter, length, Option, None, Some, is_some, refl, sym, subst, ap, inl, inr, arith, if◌then◌else◌, ◌||◌}
use Rattle.std.specs.Cmp.{nat_cmp_total}
use Rattle.std.specs.Ordering.{nat_cmp}
use Rattle.std.specs.FinMap as map
use Rattle.std.proofs.lemmas.Bool.{cases_eq, eq-eqb, ne_eqb, or_right}
use Rattle.std.proofs.lemmas.Option.{same_Some}
use Rattle.mapi_values.specs.Values.{Val}
use Rattle.command_text.specs.declared.reply.Reply.{Reply}
use Rattle.mail_objects.specs.Forms.{Ctx}
use Rattle.mail_objects.specs.declared.object.Object.{Object}
use Rattle.mail_objects.specs.declared.object.Object.TheVariants.{Context}
use Rattle.node_port.specs.Nodes.{node_at}
use Rattle.node_port.specs.declared.node.NodeRec.{NodeRec}
use Rattle.mail_tree.specs.declared.places.FolderPlace.{FolderPlace}
use Rattle.mail_tree.specs.declared.places.Sort.TheVariants.{Plain, Foreign}
use Rattle.mail_tree.specs.Changing.{Changed, as_message, associated, contents, hierarchy, nothing, now_at}
use Rattle.mail_tree.specs.Folders.{Outcome}
use Rattle.mail_tree.specs.Found.{IsFoundBeside, named_sort}
use Rattle.mail_tree.specs.Places.{find_place}
use Rattle.mail_tree.specs.Settling.{message_ids, with_context}
use Rattle.mail_tree.specs.Step.{after}
use Rattle.mail_tree.specs.Tree.{Tree, object_at}
use Rattle.mail_tree.specs.Values.{number}
use Rattle.mail_tree.specs.Whole.{AreWhole, IsWhole, fits_id}
use Rattle.mail_tree.proofs.AfterLaws.{get-without_changed}
use Rattle.mail_tree.proofs.AfterTree.{after_now, now_nothing, puts_object, tied}
use Rattle.mail_tree.proofs.KindsOfPuts.{beside_kind, low}
use Rattle.mail_tree.proofs.Nearly.{Puts, folder_kind, nearly, puts_suiting, whole}
use Rattle.mail_laws.specs.Laws.{AreCountedBut, AreShown, Counts, Mirrors, is_unread}
use Rattle.mail_laws.proofs.MirrorPuts.{all_shown, shown_but, shown_put}

-- what a command comes to that changes this and no place
abbrev pub put_so : Tree → Reply → Changed → Outcome
put_so T reply D = record { changed = D; places = T.places; last = T.last; reply = reply }

-- values may stand at a criteria object's id
pub criteria_fits : (q : ℕ) (c : Ctx) → q % 32 ≡ 7 → fits_id q (Context c) ≡ true
criteria_fits q c e = or_right (q == 0x21) _ (or_right (q == 0x61) _ (or_right (q % 32 == 2) _ (or_right (q % 32 == 3) (q % 32 == 7) (eq-eqb (q % 32) 7 e))))

-- the objects of a whole tree are whole with other values there
module _ (places : List FolderPlace) (at at' : ℕ → Option Object) (q : ℕ) (old new : Ctx) (kind : q % 32 ≡ 7) (was : at q ≡ Some (Context old)) (w : AreWhole places at) (puts : Puts at at' q (Some (Context new))) where
  no_place : (p : FolderPlace) → find_place q places ≡ Some p → ⊥
  no_place p e = let (above, below) = low q (folder_kind p.sort q (w.kinds q p e)) in omega arith

  pub object_whole : AreWhole places at'
  object_whole = whole places at' (puts_suiting (λ x. ⊥) places at at' q (Some (Context new)) (nearly (λ x. ⊥) places at w) puts (record {
    typed = λ x e. subst (λ z. fits_id q z ≡ true) (same_Some (Context new) x e) (criteria_fits q new kind);
    rows_ascend = λ t e. cc;
    store = λ e. refl;
    names = λ e. absurd (omega arith);
    context = λ p e. absurd (no_place p e);
    folders = λ f p e plain same. absurd (omega (arith, beside_kind f 13 (omega arith)));
    messages = λ f p e plain same. absurd (omega (arith, beside_kind f 14 (omega arith)));
    message = λ free four. omega arith;
  }))

  -- rows mirror what they showed
  pub object_shown : AreShown places at → AreShown places at'
  object_shown s = all_shown places at' (shown_put (λ x. ⊥) (λ x. ⊥) places at at' q (Some (Context new)) (shown_but places at s) (λ x e. e) puts (λ e. omega arith) (λ e. omega arith) no_place (λ M e. cc))

  -- the same messages are unread
  same_unread : (m : ℕ) → is_unread (at' m) ≡ is_unread (at m)
  same_unread m = elim (cases_eq m q) [
    | inl same ↦ ap (λ x. is_unread (at' x)) same ∙ ap is_unread (puts.here ∙ refl) ∙ sym (ap is_unread was) ∙ ap (λ x. is_unread (at x)) (sym same)
    | inr other ↦ ap is_unread (puts.others m other)
  ]

  -- counts are as right as they were
  pub object_counted : AreCountedBut (λ x. ⊥) places at → AreCountedBut (λ x. ⊥) places at'
  object_counted k f p c t e plain free is_c is_t =
      let other : f ≡ q → ⊥ = λ same. no_place p (subst (λ x. find_place x places ≡ Some p) same e) in
      let apart : contents f ≡ q → ⊥ = λ same. omega (arith, beside_kind f 14 (omega arith)) in
      let old = k f p c t e plain free (sym (puts.others f other) ∙ is_c) (sym (puts.others (contents f) apart) ∙ is_t) in
      let unread : (λ (m : ℕ). is_unread (at m)) ≡ (λ (m : ℕ). is_unread (at' m)) = λ i m. sym (same_unread m) i in
      record {
        messages = old.messages;
        unread = old.unread ∙ ap (λ (g : ℕ → Bool). Some (number 0x3603 (length (filter g (message_ids t.table))))) unread;
        folders = old.folders;
      }

-- ---- the tree after it

either-none : (b : Bool) (other : Option NodeRec) → other ≡ None → cond b None other ≡ None
either-none true other e = refl
either-none false other e = e

module _ (T : Tree) (q : ℕ) (old : Ctx) (props : List Val) (reply : Reply) (kind : q % 32 ≡ 7) (was : object_at T q ≡ Some (Context old)) where
  abbrev D : Changed
  D = with_context q old props nothing

  abbrev new : Ctx
  new = record old { props = props }

  abbrev o : Outcome
  o = put_so T reply D

  -- the values stand there, and elsewhere what stood there
  pub object_puts : Puts (object_at T) (now_at T D) q (Some (Context new))
  object_puts = subst (λ at. Puts at (now_at T D) q (Some (Context new))) (now_nothing T) (puts_object T nothing q (Some (Context new)))

  pub object_after : Puts (object_at T) (object_at (after T o)) q (Some (Context new))
  object_after = subst (λ at. Puts (object_at T) at q (Some (Context new))) (after_now T o) object_puts

  -- elsewhere nothing was put
  none-put : (r : ℕ) → (r ≡ q → ⊥) → map.get D.objects r ≡ None
  none-put r other = map.get-insert nat_cmp_total nothing.objects q (Some (Context new)) r ∙ ap (λ b. cond b (Some (Some (Context new))) (map.get nothing.objects r)) (tied false r q (ne_eqb r q other)) ∙ map.get-empty nat_cmp r

  other-node : (r : ℕ) → (r ≡ q → ⊥) → node_at (after T o).others r ≡ node_at T.others r
  other-node r other = get-without_changed (map.entries D.objects) T.others r ∙ ap (λ x. cond (is_some x) None (node_at T.others r)) (sym (map.get-entries D.objects r) ∙ none-put r other)

  -- a row names what it named
  same_sort : (r : ℕ) → named_sort (after T o) r ≡ named_sort T r
  same_sort r = elim (cases_eq r q) [
    | inl same ↦ rw same (rw (ne_eqb (q % 32) 2 (λ e. omega arith), ne_eqb (q % 32) 3 (λ e. omega arith)) refl)
    | inr other ↦ ap (λ b. if r % 32 == 2 then Some Plain else (if (r % 32 == 3) && b then Some Foreign else None)) (ap (λ x. is_some x || is_some (node_at (after T o).others r)) (object_after.others r other) ∙ ap (λ x. is_some (object_at T r) || is_some x) (other-node r other))
  ]

  pub whole_after_object : IsWhole T → IsWhole (after T o)
  whole_after_object w = record {
    objects = object_whole T.places (object_at T) (object_at (after T o)) q old new kind was w.objects object_after;
    no_stray = λ f p e plain. get-without_changed (map.entries D.objects) T.others (associated f) ∙ either-none (is_some (map.find nat_cmp (associated f) (map.entries D.objects))) (node_at T.others (associated f)) (w.no_stray f p e plain);
  }

  pub mirrors_after_object : IsWhole T → Mirrors T → Mirrors (after T o)
  mirrors_after_object w s = object_shown T.places (object_at T) (object_at (after T o)) q old new kind was w.objects object_after s

  pub counts_after_object : IsWhole T → Counts T → Counts (after T o)
  counts_after_object w k = object_counted T.places (object_at T) (object_at (after T o)) q old new kind was w.objects object_after k

  -- what an opening finds it finds still, if the object belongs there
  pub found_after_object : (beside : ℕ → Type 0) → beside q → IsFoundBeside beside T → IsFoundBeside beside (after T o)
  found_after_object beside here found = record {
    listed = λ f p t r s e plain is row sort.
        found.listed f p t r s e plain (sym (object_after.others (hierarchy f) (λ e. omega (arith, beside_kind f 13 (omega arith)))) ∙ is) row (sym (same_sort r) ∙ sort);
    reached = found.reached;
    owned = λ x y e. elim (cases_eq x q) [
      | inl same ↦ inl (subst beside (sym same) here)
      | inr other ↦ found.owned x y (sym (object_after.others x other) ∙ e)
    ];
  }

  -- messages are as they were
  pub messages_after_object : (m : ℕ) → as_message (now_at T D m) ≡ as_message (object_at T m)
  messages_after_object m = elim (cases_eq m q) [
    | inl same ↦ ap (λ x. as_message (now_at T D x)) same ∙ ap as_message object_puts.here ∙ sym (ap as_message was) ∙ ap (λ x. as_message (object_at T x)) (sym same)
    | inr other ↦ ap as_message (object_puts.others m other)
  ]
