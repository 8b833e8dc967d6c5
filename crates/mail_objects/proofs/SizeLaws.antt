-- Subnodes that are put in order take no more than before.
use Rattle.std.proofs.Common.{◌≡◌, ◌≤◌, ◌==◌, ◌+◌, inl, inr, nat_le, ℕ, suc, true, List, [], ◌∷◌, ◌++◌, length, map, Option, None, Some, refl, sym, ap, ◌∙◌, arith}
use Rattle.std.proofs.lemmas.Bool.{and_parts, cases_Bool, eq-eqb, eqb-true, leb-true, ne_eqb}
use Rattle.pst_base.specs.Flat.{Flat}
use Rattle.pst_base.specs.Subs.{flattened, one_deeper}
use Rattle.pst_base.specs.declared.subs.Sub.{Sub}
use Rattle.mapi_values.specs.declared.part.Part.{Part}
use Rattle.mapi_values.specs.Tables.{Tab}
use Rattle.mail_objects.specs.Writing.{AreParts, AreTable}
use Rattle.mapi_values.specs.Messages.{Mes}
use Rattle.property_context.specs.write_limits.Space.{kept_space, message_space, option_space, parts_space, props_space}
use Rattle.mapi_values.specs.Keyed.{drop_key, find_key, keys_ascend}
use Rattle.node_port.specs.Stops.{subs_size}
use Rattle.node_values.specs.Subnodes.{sub_id}

-- what a subnode takes
abbrev pub sub_size : Sub → ℕ
sub_size s = 1 + length s.blocks + subs_size s.subs

-- what all of some take
abbrev pub sub_sizes : List Sub → ℕ
sub_sizes [] = 0
sub_sizes (s ∷ subs) = sub_size s + sub_sizes subs

deeper-size : (fs gs : List Flat) → subs_size (map one_deeper fs ++ gs) ≡ subs_size fs + subs_size gs
deeper-size [] gs = omega arith
deeper-size (f ∷ fs) gs = omega (arith, deeper-size fs gs)

pub flattened-size : (subs : List Sub) → subs_size (flattened subs) ≡ sub_sizes subs
flattened-size [] = refl
flattened-size (s ∷ subs) = omega (arith, deeper-size s.subs (flattened subs), flattened-size subs)

none-some : (y : Sub) → None ≡ Some y → ⊥
none-some y e = cc

some-same : (x y : Sub) → Some x ≡ Some y → x ≡ y
some-same x y e = cc

drop-size : (k : ℕ) (subs : List Sub) (y : Sub) → find_key sub_id k subs ≡ Some y → sub_sizes subs ≡ sub_size y + sub_sizes (drop_key sub_id k subs)
drop-size k [] y h = absurd (none-some y h)
drop-size k (x ∷ subs) y h = elim (cases_Bool (x.nid.bits == k)) [
  | inl t ↦
      let e : x ≡ y = some-same x y (rw t at h) in
      rw t (omega (arith, ap sub_size e))
  | inr f ↦
      let later : find_key sub_id k subs ≡ Some y = rw f at h in
      rw f (omega (arith, drop-size k subs y later))
]

find-drop : (k n : ℕ) (subs : List Sub) → (n ≡ k → ⊥) → find_key sub_id n (drop_key sub_id k subs) ≡ find_key sub_id n subs
find-drop k n [] other = refl
find-drop k n (x ∷ subs) other = elim (cases_Bool (x.nid.bits == k)) [
  | inl t ↦ rw (t, ne_eqb x.nid.bits n (λ e. other (sym e ∙ eqb-true x.nid.bits k t))) refl
  | inr f ↦ rw f (elim (cases_Bool (x.nid.bits == n)) [ inl t1 ↦ rw t1 refl | inr f1 ↦ rw f1 (find-drop k n subs other) ])
]

find-high : (low n : ℕ) (subs : List Sub) (x : Sub) → keys_ascend sub_id low subs ≡ true → find_key sub_id n subs ≡ Some x → low ≤ n
find-high low n [] x a h = absurd (none-some x h)
find-high low n (y ∷ subs) x a h =
    let p = and_parts (nat_le low y.nid.bits) (keys_ascend sub_id (suc y.nid.bits) subs) a in
    let first = leb-true low y.nid.bits p.0 in
    elim (cases_Bool (y.nid.bits == n)) [
      | inl t ↦ omega (arith, first, eqb-true y.nid.bits n t)
      | inr f ↦
          let later : find_key sub_id n subs ≡ Some x = rw f at h in
          omega (arith, first, find-high (suc y.nid.bits) n subs x p.1 later)
    ]

-- subnodes that ascend by id, each the first of its id among others, take no more than they
pub sorted-size : (low : ℕ) (sorted subs : List Sub) → keys_ascend sub_id low sorted ≡ true → ((n : ℕ) (x : Sub) → find_key sub_id n sorted ≡ Some x → find_key sub_id n subs ≡ Some x)
    → sub_sizes sorted ≤ sub_sizes subs
sorted-size low [] subs a same = omega arith
sorted-size low (y ∷ sorted) subs a same =
    let p = and_parts (nat_le low y.nid.bits) (keys_ascend sub_id (suc y.nid.bits) sorted) a in
    let here : find_key sub_id y.nid.bits subs ≡ Some y = same y.nid.bits y (rw (eq-eqb y.nid.bits y.nid.bits refl) refl) in
    let rest = sorted-size (suc y.nid.bits) sorted (drop_key sub_id y.nid.bits subs) p.1 (λ n x e.
    let high = find-high (suc y.nid.bits) n sorted x p.1 e in
    find-drop y.nid.bits n subs (λ z. absurd (omega (arith, high, z))) ∙ same n x (rw (ne_eqb y.nid.bits n (λ z. absurd (omega (arith, high, z)))) e)) in
    omega (arith, rest, drop-size y.nid.bits subs y here)

-- so they do where they stand flat
pub order-size : (sorted subs : List Sub) → keys_ascend sub_id 0 sorted ≡ true → ((n : ℕ) → find_key sub_id n sorted ≡ find_key sub_id n subs) → subs_size (flattened sorted) ≤ subs_size (flattened subs)
order-size sorted subs a same =
    omega (arith, flattened-size sorted, flattened-size subs, sorted-size 0 sorted subs a (λ n x e. sym (same n) ∙ e))

pub sizes-append : (a b : List Sub) → sub_sizes (a ++ b) ≡ sub_sizes a + sub_sizes b
sizes-append [] b = omega arith
sizes-append (s ∷ a) b = omega (arith, sizes-append a b)

-- a table takes no more than the room for it
pub table-sizes : (id : ℕ) (t : Option Tab) (subs : List Sub) → AreTable id t subs → sub_sizes subs ≤ option_space t
table-sizes id None [] are = omega arith
table-sizes id None (s ∷ subs) are = absurd are
table-sizes id (Some t) [] are = absurd are
table-sizes id (Some t) (s ∷ subs) are = omega (arith, are.0.small, ap sub_sizes are.1)

-- nor do attachments
pub parts-sizes : (parts : List Part) (subs : List Sub) → AreParts parts subs → sub_sizes subs ≤ parts_space parts
parts-sizes [] [] are = omega arith
parts-sizes [] (s ∷ subs) are = absurd are
parts-sizes (p ∷ parts) [] are = absurd are
parts-sizes (p ∷ parts) (s ∷ subs) are = omega (arith, are.0.small, parts-sizes parts subs are.1)

-- a message whose values and other subnodes take no more than the room for them
pub message-small : (m : Mes) (taken below : ℕ) → taken ≤ props_space m.props + below → below ≤ (option_space m.recipients + option_space m.attachments) + (parts_space m.parts + kept_space m.kept) → taken ≤ message_space m
unfolding message_space
message-small m taken below a b = omega arith
