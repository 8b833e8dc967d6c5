-- Values of one byte, each of which has one item.
use Rattle.std.proofs.Common.{◌≡◌, ◌∙◌, ◌≢◌, ◌<◌, ◌+◌, ◌∷◌, [], ℕ, zero, suc, List, length, get_or, set, replicate, Option, Some, refl, ap, inl, inr, arith}
use Rattle.std.proofs.lemmas.Bool.{cases_lt, eq-eqb, ne_eqb}
use Rattle.std.proofs.lemmas.List.{get_or-replicate, get_or_past, length-replicate}
use Rattle.heap_on_node.specs.Packing.{Adds, IsPacked, item_in}
use Rattle.heap_on_node.proofs.PackingLaws.{kept-by_adds}
use Rattle.node_port.specs.Stops.{subs_size}
use Rattle.node_values.proofs.NamedLaws.{named-item}
use Rattle.node_values.specs.Subnodes.{data_of}
use Rattle.pst_base.specs.Subs.{flattened}
use Rattle.pst_base.specs.declared.subs.Sub.{Sub}
use Rattle.table_context.specs.Rows.{others, subnode}
use Rattle.table_writer.specs.declared.value.Made.{Made}
use Rattle.table_writer.specs.Making.{AreSingles, IsMade, PutsValue, get_of, missing, sub_of}
use Rattle.table_writer.specs.Woven.{all_woven}
use Rattle.table_writer.proofs.MakingLaws.{grows-along, subnode-none}
use Rattle.table_writer.proofs.PackLaws.{adds-weigh, valid-hid}

zero-at : (n k : ℕ) → get_or (replicate {A = ℕ} n 0) k 0 ≡ 0
zero-at n k = elim (cases_lt k n) [
  | inl low ↦ get_or-replicate {A = ℕ} n k 0 0 low
  | inr high ↦ get_or_past (replicate {A = ℕ} n 0) k 0 (omega (arith, high, length-replicate {A = ℕ} n 0))
]

pub singles-none : (get : ℕ → Option (List ℕ)) (singles : List ℕ) → singles ≡ replicate 256 0 → AreSingles get singles
singles-none get singles e = record {
  count = ap length e ∙ length-replicate {A = ℕ} 256 0;
  named = λ byte some. absurd (some (ap (λ (hids : List ℕ). get_or hids byte 0) e ∙ zero-at 256 byte));
}

pub missing-set : (hids : List ℕ) (byte hid : ℕ) → byte < length hids → get_or hids byte 0 ≡ 0 → (hid ≡ 0 → ⊥) → missing (set hids byte hid) + 1 ≡ missing hids
missing-set [] byte hid lt free some = absurd (omega (arith, lt))
missing-set (h ∷ hids) zero hid lt free some = rw (eq-eqb h 0 free, ne_eqb hid 0 some) (omega arith)
missing-set (h ∷ hids) (suc byte) hid lt free some = omega (arith, missing-set hids byte hid (omega (arith, lt)) free some)

-- a byte that has its item
pub known-puts : (made : Made) (byte known : ℕ) → IsMade made → known ≡ get_or made.singles.items byte 0 → known ≢ 0 → PutsValue made made (byte ∷ []) known
known-puts made byte known m e some =
    let there : item_in made.maker known ≡ Some (byte ∷ []) = ap (item_in made.maker) e ∙ m.singles.named byte (λ z. some (e ∙ z)) in
    let v = valid-hid made.maker known (byte ∷ []) there in
    record {
      grows = grows-along made made (subnode known) [] (subnode-none known v.0) (record { items = λ h x e. e; subs = λ n x e. e; left = λ ids. refl });
      here = named-item (get_of made) (sub_of made) known some v.0 ∙ there;
      weighs = omega arith;
      count = omega arith;
      loads = omega arith;
      blocks = omega arith;
    }

-- a byte that gets its item
pub byte-puts : (old new : Made) (byte hid : ℕ) → IsMade old → IsPacked new.maker → Adds old.maker (byte ∷ []) new.maker hid → all_woven new.subs ≡ all_woven old.subs
    → new.singles.items ≡ set old.singles.items byte hid → byte < 256 → get_or old.singles.items byte 0 ≡ 0 → PutsValue old new (byte ∷ []) hid
byte-puts old new byte hid m packed a c s lt free =
    let v = valid-hid new.maker hid (byte ∷ []) a.here in
    let some : hid ≡ 0 → ⊥ = λ z. absurd (omega (arith, v.1, z)) in
    let fewer : missing new.singles.items + 1 ≡ missing old.singles.items = rw s (missing-set old.singles.items byte hid (omega (arith, lt, m.singles.count)) free some) in
    record {
      grows = grows-along old new (subnode hid) [] (subnode-none hid v.0) (record {
        items = kept-by_adds old.maker new.maker (byte ∷ []) hid a;
        subs = λ n x e. ap (λ (ss : List Sub). data_of (flattened ss) n) c ∙ e;
        left = λ ids. ap (λ (ss : List Sub). others ids (flattened ss)) c;
      });
      here = named-item (get_of new) (sub_of new) hid some v.0 ∙ a.here;
      weighs = omega (arith, adds-weigh old.maker new.maker (byte ∷ []) hid m.packed packed a);
      count = omega (arith, ap length c);
      loads = omega (arith, a.spent, fewer);
      blocks = omega (arith, ap (λ (ss : List Sub). subs_size (flattened ss)) c);
    }
