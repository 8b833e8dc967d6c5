-- What `name` leaves: it puts names at the node of names or changes nothing.
use Rattle.std.proofs.Common.{◌≡◌, ℕ, ◌^◌, ◌==◌, true, false, nat_lt, length, List, Option, None, Some, IfOk, refl, sym, subst, ◌⊎◌, inl, inr}
use Rattle.std.specs.FinMap as map
use Rattle.std.specs.List.{list_all}
use Rattle.std.proofs.lemmas.Bool.{and_parts, cases_Bool, eqb-true, ltb-true}
use Rattle.named_props.specs.Adding as adding
use Rattle.named_props.specs.Entries.{fits_id}
use Rattle.named_props.specs.Finding.{name_at}
use Rattle.named_props.specs.Holding.{IsWritable, names_of, written}
use Rattle.named_props.specs.declared.names.Names.{Names}
use Rattle.named_props.proofs.AddedLaws.{writes-added}
use Rattle.command_text.specs.declared.reply.LastLine.TheVariants.{Named}
use Rattle.mail_objects.specs.Forms.{Ctx}
use Rattle.mail_objects.specs.declared.object.Object.TheVariants.{Context}
use Rattle.mail_tree.specs.Tree.{Tree}
use Rattle.mail_tree.specs.Changing.{nothing, now_at, with_object}
use Rattle.mail_tree.specs.Folders.{Outcome, replied, unchanged}
use Rattle.mail_tree.specs.Names.{AreNames, NAMES, found_or_added, is_name, named_property, with_another}
use Rattle.mail_tree.specs.Settling.{with_context}
use Rattle.mail_tree.specs.Whole.{AreWhole, Fine}
use Rattle.mail_tree.proofs.AfterTree.{puts_object}
use Rattle.mail_tree.proofs.FineLaws.{fine_weaker}
use Rattle.mail_tree.proofs.KindsOfPuts.{puts_names}
use Rattle.mail_tree.proofs.Nearly.{Puts, nearly, whole}
use Rattle.mail_laws.proofs.Keeping.{from_fine}
use Rattle.mail_laws.proofs.MessageSteps.{Before, Keeps}
use Rattle.mail_tree.proofs.StoodLaws.{AreStood, IsNew, none_stood, values_stood, after_limits}

-- after a command the names are these values, and elsewhere all is as it was
pub record PutsNames (T : Tree) (o : Outcome) : Type 0 where
  pub old : Ctx
  pub new : Ctx
  pub was : now_at T nothing NAMES ≡ Some (Context old)
  pub names : AreNames new.props
  pub puts : Puts (now_at T nothing) (now_at T o.changed) NAMES (Some (Context new))
  pub objects_are : (o.changed.objects ≡ map.empty) ⊎ (o.changed.objects ≡ map.insert map.empty NAMES (Some (Context new)))
  pub places_are : o.places ≡ T.places

-- the names that are planned where there is room
pub another_is : (n : Names) (guid : List ℕ) (number : ℕ) → adding.is_full n guid number ≡ false → with_another n guid number ≡ adding.added n guid number
unfolding with_another
another_is n guid number room = rw room refl

module _ (T : Tree) (guid : List ℕ) (number : ℕ) (is : is_name guid number ≡ true) (c : Ctx) (n : Names) (at : now_at T nothing NAMES ≡ Some (Context c)) (reads : names_of c.props ≡ Some n) (writes : IsWritable n) (numbers : list_all fits_id n.entries ≡ true) where
  -- a name that is there changes nothing
  found_one : (property : ℕ) → PutsNames T (unchanged T (replied (Named property)))
  found_one property = record {
    old = c;
    new = c;
    was = at;
    names = (n, reads, writes, numbers);
    puts = record { here = at; others = λ x other. refl };
    objects_are = inl refl;
    places_are = refl;
  }

  -- a name that is added
  added_one : adding.is_full n guid number ≡ false → (o : Outcome) → o.changed ≡ with_context NAMES c (written (adding.added n guid number)) nothing → o.places ≡ T.places → PutsNames T o
  added_one room o changed places =
      let props = written (adding.added n guid number) in
      let new : Ctx = record c { props = props } in
      let parts = and_parts (length guid == 16) (nat_lt number (2 ^ 32)) is in
      let w = writes-added c.props n guid number reads writes numbers (eqb-true (length guid) 16 parts.0) (ltb-true number (2 ^ 32) parts.1) room in record {
        old = c;
        new = new;
        was = at;
        names = (adding.added n guid number, w.0, w.1, w.2);
        puts = subst (λ D. Puts (now_at T nothing) (now_at T D) NAMES (Some (Context new))) (sym changed) (puts_object T nothing NAMES (Some (Context new)));
        objects_are = inr (subst (λ D. D.objects ≡ map.insert map.empty NAMES (Some (Context new))) (sym changed) refl);
        places_are = places;
      }

  names_stood : (new : Ctx) → AreStood T (IsNew None) (with_object NAMES (Some (Context new)) nothing)
  names_stood new = values_stood T (IsNew None) NAMES c new nothing (none_stood T (IsNew None)) at

  by_name : (property : Option ℕ) → Fine (found_or_added T c n guid number property) (PutsNames T)
  unfolding found_or_added
  by_name (Some property) = found_one property
  by_name None = elim (cases_Bool (adding.is_full n guid number)) [
    | inl full ↦ rw full (after_limits (PutsNames T) T None (with_context NAMES c (written (with_another n guid number)) nothing) _ (names_stood _) tt)
    | inr room ↦ rw (room, another_is n guid number room) (after_limits (PutsNames T) T None (with_context NAMES c (written (adding.added n guid number)) nothing) _ (names_stood _) (added_one room _ refl refl))
  ]

-- `name`
pub fine_puts_names : (T : Tree) (guid : List ℕ) (number : ℕ) → Before T → Fine (named_property T guid number) (PutsNames T)
unfolding named_property
fine_puts_names T guid number w = elim (cases_Bool (is_name guid number)) [
  | inr bad ↦ rw bad tt
  | inl is ↦
      let names = w.names in
      let n = names.2 in
      rw (is, names.1, n.1) (by_name T guid number is names.0 n.0 names.1 n.1 n.2 n.3 (name_at n.0.guids n.0.entries guid number))
]

pub puts_names_after : (T : Tree) (guid : List ℕ) (number : ℕ) → Before T → IfOk (named_property T guid number) (PutsNames T)
puts_names_after T guid number w = from_fine (PutsNames T) (named_property T guid number) (fine_puts_names T guid number w)

-- it leaves a tree whole
pub fine_named : (T : Tree) (guid : List ℕ) (number : ℕ) → Before T → Fine (named_property T guid number) (Keeps T)
fine_named T guid number w = fine_weaker (PutsNames T) (Keeps T) (named_property T guid number) (fine_puts_names T guid number w) (λ o k.
    subst (λ places. AreWhole places (now_at T o.changed)) (sym k.places_are) (whole T.places (now_at T o.changed) (puts_names (λ x. ⊥) T.places (now_at T nothing) (now_at T o.changed) (nearly (λ x. ⊥) T.places (now_at T nothing) w) k.new k.names k.puts)))
