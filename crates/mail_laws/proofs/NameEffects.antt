-- What `name` finds, and what it leaves of other names.
use Rattle.std.proofs.Common.{◌≡◌, ◌∙◌, ℕ, ◌^◌, ◌==◌, ◌+◌, true, false, nat_lt, length, List, Option, None, Some, Ok, IfOk, refl, sym, ap, inl, inr}
use Rattle.std.specs.List.{list_all}
use Rattle.std.proofs.lemmas.Bool.{and_parts, cases_Bool, eqb-true, ltb-true}
use Rattle.named_props.specs.Adding as adding
use Rattle.named_props.specs.Entries.{fits_id}
use Rattle.named_props.specs.Finding.{name_at}
use Rattle.named_props.specs.Holding.{IsWritable, names_of, written}
use Rattle.named_props.specs.declared.names.Names.{Names}
use Rattle.named_props.proofs.AddedLaws.{writes-added}
use Rattle.named_props.proofs.FoundLaws.{name_at-added, name_at-kept}
use Rattle.command_text.specs.declared.reply.LastLine.TheVariants.{Named}
use Rattle.mail_objects.specs.Forms.{Ctx}
use Rattle.mail_objects.specs.declared.object.Object.TheVariants.{Context}
use Rattle.mail_tree.specs.Tree.{Tree}
use Rattle.mail_tree.specs.Changing.{nothing, now_at, with_object}
use Rattle.mail_tree.specs.Folders.{Outcome, replied, unchanged}
use Rattle.mail_tree.specs.Names.{NAMES, found_or_added, is_name, named_property, names_in, with_another}
use Rattle.mail_tree.specs.Settling.{with_context}
use Rattle.mail_tree.specs.Step.{after}
use Rattle.mail_tree.specs.Whole.{Fine}
use Rattle.mail_tree.proofs.AfterTree.{after_now, now_nothing, puts_object}
use Rattle.mail_laws.specs.Laws.{FindsName}
use Rattle.mail_laws.proofs.Keeping.{from_fine}
use Rattle.mail_laws.proofs.MessageSteps.{Before}
use Rattle.mail_laws.proofs.NameSteps.{another_is}
use Rattle.mail_tree.proofs.StoodLaws.{AreStood, IsNew, none_stood, values_stood, after_limits}

-- what stands there after changes stands there in the tree after them
in_after : (T : Tree) (o : Outcome) (q : ℕ) → now_at (after T o) nothing q ≡ now_at T o.changed q
in_after T o q = ap (λ g. g q) (now_nothing (after T o) ∙ sym (after_now T o))

-- the names of a tree
names_are : (T : Tree) (c : Ctx) (n : Names) → now_at T nothing NAMES ≡ Some (Context c) → names_of c.props ≡ Some n → names_in T ≡ Ok n
unfolding names_in
names_are T c n at reads = rw (at, reads) refl

module _ (T : Tree) (guid : List ℕ) (number : ℕ) (is : is_name guid number ≡ true) (c : Ctx) (n : Names) (at : now_at T nothing NAMES ≡ Some (Context c)) (reads : names_of c.props ≡ Some n) (writes : IsWritable n) (numbers : list_all fits_id n.entries ≡ true) where
  -- a name that is there
  there : (property : ℕ) → name_at n.guids n.entries guid number ≡ Some property → (o : Outcome) → o ≡ unchanged T (replied (Named property)) → FindsName T guid number o
  there property e o same =
      let changed : o.changed ≡ nothing = ap (λ (x : Outcome). x.changed) same in
      let stays : (q : ℕ) → now_at T o.changed q ≡ now_at T nothing q = λ q. ap (λ D. now_at T D q) changed in record {
        old = n;
        new = n;
        property = property;
        was = names_are T c n at reads;
        is = names_are (after T o) c n (in_after T o NAMES ∙ stays NAMES ∙ at) reads;
        reply = ap (λ (x : Outcome). x.reply) same;
        finds = λ known. e;
        keeps = λ known other id kept f. f;
        others = λ q apart. ap (λ g. g q) (sym (after_now T o)) ∙ stays q ∙ ap (λ g. g q) (now_nothing T);
        places = ap (λ (x : Outcome). x.places) same;
      }

  -- a name that is added
  added : name_at n.guids n.entries guid number ≡ None → adding.is_full n guid number ≡ false → (o : Outcome) → o.changed ≡ with_context NAMES c (written (adding.added n guid number)) nothing → o.places ≡ T.places
      → o.reply ≡ replied (Named (0x8000 + adding.next_index n.entries)) → FindsName T guid number o
  added none room o changed places reply =
      let m = adding.added n guid number in
      let new : Ctx = record c { props = written m } in
      let parts = and_parts (length guid == 16) (nat_lt number (2 ^ 32)) is in
      let w = writes-added c.props n guid number reads writes numbers (eqb-true (length guid) 16 parts.0) (ltb-true number (2 ^ 32) parts.1) room in
      let puts = puts_object T nothing NAMES (Some (Context new)) in record {
        old = n;
        new = m;
        property = 0x8000 + adding.next_index n.entries;
        was = names_are T c n at reads;
        is = names_are (after T o) new m (in_after T o NAMES ∙ ap (λ D. now_at T D NAMES) changed ∙ puts.here) w.0;
        reply = reply;
        finds = λ known. name_at-added n guid number known none;
        keeps = λ known other id kept f. name_at-kept n guid other number id kept known f;
        others = λ q apart. ap (λ g. g q) (sym (after_now T o)) ∙ ap (λ D. now_at T D q) changed ∙ puts.others q apart ∙ ap (λ g. g q) (now_nothing T);
        places = places;
      }

  names_stood : (new : Ctx) → AreStood T (IsNew None) (with_object NAMES (Some (Context new)) nothing)
  names_stood new = values_stood T (IsNew None) NAMES c new nothing (none_stood T (IsNew None)) at

  either : (found : Option ℕ) → name_at n.guids n.entries guid number ≡ found → Fine (found_or_added T c n guid number found) (FindsName T guid number)
  unfolding found_or_added
  either (Some property) e = there property e _ refl
  either None e = elim (cases_Bool (adding.is_full n guid number)) [
    | inl full ↦ rw full (after_limits (FindsName T guid number) T None (with_context NAMES c (written (with_another n guid number)) nothing) _ (names_stood _) tt)
    | inr room ↦ rw (room, another_is n guid number room) (after_limits (FindsName T guid number) T None (with_context NAMES c (written (adding.added n guid number)) nothing) _ (names_stood _) (added e room _ refl refl refl))
  ]

-- `name`
pub finds_name : (T : Tree) (guid : List ℕ) (number : ℕ) → Before T → IfOk (named_property T guid number) (FindsName T guid number)
unfolding named_property
finds_name T guid number w = from_fine (FindsName T guid number) (named_property T guid number) (elim (cases_Bool (is_name guid number)) [
  | inr bad ↦ rw bad tt
  | inl is ↦
      let names = w.names in
      let n = names.2 in
      rw (is, names.1, n.1) (either T guid number is names.0 n.0 names.1 n.1 n.2 n.3 (name_at n.0.guids n.0.entries guid number) refl)
])
