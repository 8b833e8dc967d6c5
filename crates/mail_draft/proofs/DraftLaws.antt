-- A draft's entries are its changes.
use Rattle.std.proofs.Common.{◌≡◌, ◌&&◌, ℕ, Bool, true, false, List, [], ◌∷◌, Option, None, Some, refl, sym, ◌∙◌, ap, cond, subst, length, IsTrue}
use Rattle.std.proofs.lemmas.Bool.{and_parts, and_from}
use Rattle.std.specs.declared.cmp.Ordering.TheVariants.{Less, Equal, Greater}
use Rattle.std.specs.Ordering.{nat_cmp, eq_by_cmp, match_ordering}
use Rattle.std.specs.Cmp.{nat_cmp_total, eq_by_cmp_equiv}
use Rattle.std.specs.FinMap as map
use Rattle.std.specs.Bool.{OnFalse}
use Rattle.std.specs.Map.{lookup, remove_entry}
use Rattle.std.specs.BTreeMap.{insert_entry, is_at}
use Rattle.mail_objects.specs.declared.object.Object.{Object}
use Rattle.mail_draft.specs.Placed.{is_placed, are_placed}

pub found_is : {X : Type 0} (q : ℕ) (es : List (ℕ × X)) → lookup (is_at (nat_cmp q)) es ≡ map.find nat_cmp q es
found_is q [] = refl
found_is q (e ∷ es) = ap (cond (eq_by_cmp nat_cmp q e.0) _) (found_is q es)

-- what the entries have at an id, the changes have
pub entry_is : {X : Type 0} (q : ℕ) (es : List (ℕ × X)) → map.get (map.from_entries {R = nat_cmp} es) q ≡ lookup (is_at (nat_cmp q)) es
entry_is q es = map.get-from_entries nat_cmp_total es q ∙ sym (found_is q es)

-- an entry that is put is a change that is put
pub entry_put : {X : Type 0} (k : ℕ) (x : X) (old new : List (ℕ × X))
    → ((q : ℕ) → lookup (is_at (nat_cmp q)) new ≡ cond (is_at (nat_cmp k) q) (Some x) (lookup (is_at (nat_cmp q)) old))
    → map.from_entries {R = nat_cmp} new ≡ map.insert (map.from_entries old) k x
entry_put k x old new updates =
    map.same_map nat_cmp_total map.nat_cmp-IsAntisymmetric (map.from_entries new) (map.insert (map.from_entries old) k x)
    (λ q. entry_is q new ∙ updates q
    ∙ ap (λ b. cond b (Some x) (lookup (is_at (nat_cmp q)) old)) ((eq_by_cmp_equiv nat_cmp_total).symm k q)
    ∙ ap (cond (eq_by_cmp nat_cmp q k) (Some x)) (sym (entry_is q old))
    ∙ sym (map.get-insert nat_cmp_total (map.from_entries old) k x q))

-- of two choices by the same test the second counts for nothing
twice : {X : Type 0} (b : Bool) (x y z : X) → cond b x (cond b y z) ≡ cond b x z
twice true x y z = refl
twice false x y z = refl

-- what is put where an entry was taken out, is put where it was
pub put_again : {X : Type 0} (k : ℕ) (x : X) (old new : List (ℕ × X))
    → ((q : ℕ) → lookup (is_at (nat_cmp q)) new ≡ cond (is_at (nat_cmp k) q) None (lookup (is_at (nat_cmp q)) old))
    → map.insert (map.from_entries {R = nat_cmp} new) k x ≡ map.insert (map.from_entries old) k x
put_again k x old new updates =
    map.same_map nat_cmp_total map.nat_cmp-IsAntisymmetric (map.insert (map.from_entries new) k x) (map.insert (map.from_entries old) k x)
    (λ q. map.get-insert nat_cmp_total (map.from_entries new) k x q
    ∙ ap (cond (eq_by_cmp nat_cmp q k) (Some x)) (entry_is q new ∙ updates q
    ∙ ap (λ b. cond b None (lookup (is_at (nat_cmp q)) old)) ((eq_by_cmp_equiv nat_cmp_total).symm k q))
    ∙ twice (eq_by_cmp nat_cmp q k) (Some x) None (lookup (is_at (nat_cmp q)) old)
    ∙ ap (cond (eq_by_cmp nat_cmp q k) (Some x)) (sym (entry_is q old))
    ∙ sym (map.get-insert nat_cmp_total (map.from_entries old) k x q))

-- entries stay at their own ids where one is taken out
pub rest_placed : (k : ℕ) (es : List (ℕ × Option Object)) → are_placed es ≡ true → are_placed (remove_entry (is_at (nat_cmp k)) es) ≡ true
rest_placed k [] all = refl
rest_placed k (e ∷ es) all =
    let p = and_parts (is_placed e) (are_placed es) all in
    pick (is_at (nat_cmp k) e.0) p.0 p.1 (rest_placed k es p.1)
  where
    pick : (b : Bool) → is_placed e ≡ true → are_placed es ≡ true → are_placed (remove_entry (is_at (nat_cmp k)) es) ≡ true
        → are_placed (cond b es (e ∷ remove_entry (is_at (nat_cmp k)) es)) ≡ true
    pick true own all rest = all
    pick false own all rest = and_from (is_placed e) (are_placed (remove_entry (is_at (nat_cmp k)) es)) own rest

-- entries that make no changes are none
no_changes : {X : Type 0} (es : List (ℕ × X)) → map.from_entries {R = nat_cmp} es ≡ map.empty → es ≡ []
no_changes [] is = refl
no_changes (e ∷ es) is =
    let here : map.get (map.from_entries {R = nat_cmp} (e ∷ es)) e.0 ≡ Some e.1 = map.get-insert nat_cmp_total (map.from_entries es) e.0 e.1 e.0
    ∙ ap (λ b. cond b (Some e.1) (map.get (map.from_entries {R = nat_cmp} es) e.0)) ((eq_by_cmp_equiv nat_cmp_total).refl e.0) in
    let there : map.get (map.from_entries {R = nat_cmp} (e ∷ es)) e.0 ≡ None = ap (λ m. map.get m e.0) is ∙ map.get-empty nat_cmp e.0 in
    absurd (let clash : Some e.1 ≡ None = sym here ∙ there in cc)

-- a test that holds where there are no entries tells that there are changes
pub some_changes : {X : Type 0} (b : Bool) (es : List (ℕ × X)) → (length es ≡ 0 → IsTrue b) → OnFalse b (map.from_entries {R = nat_cmp} es ≡ map.empty → ⊥)
some_changes true es none = tt
some_changes false es none = λ is. let clash : false ≡ true = none (ap length (no_changes es is)) in cc

-- entries stay at their own ids where one is put at its own
pub put_placed : (k : ℕ) (object : Option Object) (es : List (ℕ × Option Object))
    → is_placed (k, object) ≡ true → are_placed es ≡ true → are_placed (insert_entry nat_cmp es k object) ≡ true
put_placed k object [] own all = and_from (is_placed (k, object)) true own refl
put_placed k object (e ∷ es) own all =
    let p = and_parts (is_placed e) (are_placed es) all in
    elim (nat_cmp k e.0) as (λ r. nat_cmp k e.0 ≡ r → are_placed (match_ordering r ((k, object) ∷ e ∷ es) ((e.0, object) ∷ es) (e ∷ insert_entry nat_cmp es k object)) ≡ true) [
      | Less ↦ λ _. and_from (is_placed (k, object)) (is_placed e && are_placed es) own all
      | Equal ↦ λ same. and_from (is_placed (e.0, object)) (are_placed es)
          (subst (λ q. is_placed (q, object) ≡ true) (map.nat_cmp-IsAntisymmetric k e.0 same) own) p.1
      | Greater ↦ λ _. and_from (is_placed e) (are_placed (insert_entry nat_cmp es k object)) p.0 (put_placed k object es own p.1)
    ] refl
