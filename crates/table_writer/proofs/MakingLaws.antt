-- What was put where a cell can name it.
use Rattle.std.proofs.Common.{◌≡◌, ◌∙◌, ◌≤◌, ◌<◌, ◌+◌, ◌/◌, ◌%◌, ◌++◌, ◌∷◌, [], ℕ, zero, suc, List, length, Some, Result, Ok, Err, IfOk, map, drop, refl, sym, ap, subst, arith, length-append}
use Rattle.std.proofs.lemmas.Bool.{eq-eqb, ne_eqb, lt-ltb, le-ltb}
use Rattle.std.proofs.lemmas.List.{nil_from_length}
use Rattle.std.specs.List.{concat}
use Rattle.std.specs.Option.{option_map}
use Rattle.heap_on_node.specs.Packing.{Adds, item_in, spread}
use Rattle.heap_on_node.proofs.PackingLaws.{kept-by_adds}
use Rattle.pst_base.specs.Flat.{Flat}
use Rattle.pst_base.specs.Subs.{flattened, one_deeper}
use Rattle.pst_base.specs.declared.subs.Sub.{Sub}
use Rattle.table_writer.specs.declared.value.Made.{Made}
use Rattle.node_port.specs.Stops.{subs_size}
use Rattle.node_values.proofs.NamedLaws.{named-item, named-sub, named-zero}
use Rattle.table_writer.specs.Making.{Grows, IsMade, PutsValue, cost, get_of, in_heap, in_subnode, missing, sub_of, subnodes, weight}
use Rattle.node_values.specs.Named.{pieces, pieces_of}
use Rattle.table_context.specs.Rows.{subnode}
use Rattle.node_values.specs.Subnodes.{data_of}
use Rattle.table_context.specs.Rows.{others}
use Rattle.table_writer.specs.Woven.{Weaves, all_woven, plain}
use Rattle.table_writer.proofs.PackLaws.{adds-weigh, valid-hid}
use Rattle.table_writer.proofs.WovenLaws.{weave-here, weave-keeps, weave-left}

pub subnode-none : (n : ℕ) → n % 32 ≡ 0 → subnode n ≡ []
unfolding subnode
subnode-none n e = rw (eq-eqb (n % 32) 0 e) refl

pub subnode-one : (n : ℕ) → n % 32 ≡ 31 → subnode n ≡ n ∷ []
unfolding subnode
subnode-one n e = rw (ne_eqb (n % 32) 0 (λ z. absurd (omega (arith, e, z)))) refl

cost-item : (n : ℕ) → 0 < n → n ≤ 3580 → cost n ≡ n + 4
cost-item n a b = rw (ne_eqb n 0 (λ z. absurd (omega (arith, a, z))), le-ltb 3580 n b) refl

subnodes-long : (n : ℕ) → 3580 < n → subnodes n ≡ 1
subnodes-long n a = rw (lt-ltb 3580 n a) refl

in_heap-short : (n : ℕ) → n ≤ 3580 → in_heap n ≡ n
in_heap-short n a = rw (le-ltb 3580 n a) refl

in_subnode-long : (n : ℕ) → 3580 < n → in_subnode n ≡ n / 8176 + 3
in_subnode-long n a = rw (lt-ltb 3580 n a) refl

length-pieces_of : (n : ℕ) (b : List ℕ) → length (pieces_of n b) ≡ n
length-pieces_of zero b = refl
length-pieces_of (suc n) b = ap suc (length-pieces_of n (drop 8176 b))

pub length-pieces : (b : List ℕ) → length (pieces b) ≡ (length b + 8175) / 8176
unfolding pieces
length-pieces b = length-pieces_of ((length b + 8175) / 8176) b

size-append : (xs ys : List Flat) → subs_size (xs ++ ys) ≡ subs_size xs + subs_size ys
size-append [] ys = omega arith
size-append (x ∷ xs) ys = omega (arith, size-append xs ys)

size-subs : (a b : List Sub) → subs_size (flattened (a ++ b)) ≡ subs_size (flattened a) + subs_size (flattened b)
size-subs [] b = omega arith
size-subs (s ∷ a) b =
    omega (arith, size-append (map one_deeper s.subs) (flattened (a ++ b)), size-append (map one_deeper s.subs) (flattened a), size-subs a b)

-- a new subnode counts for its blocks, and one
pub weave-size : (old new : List Sub) (blocks : List (List ℕ)) (nid : ℕ) → Weaves old blocks new nid → subs_size (flattened new) ≡ subs_size (flattened old) + (1 + length blocks)
weave-size old new blocks nid w =
    omega (
      arith,
      ap (λ (ss : List Sub). subs_size (flattened ss)) w.new_is,
      ap (λ (ss : List Sub). subs_size (flattened ss)) w.old_is,
      size-subs w.before (plain nid blocks ∷ w.after),
      size-subs w.before w.after,
    )

pub grows-along : (old new : Made) (a b : List ℕ) → a ≡ b → Grows old new b → Grows old new a
grows-along old new a b e g = subst (λ (ids : List ℕ). Grows old new ids) (sym e) g

pub nothing-puts : (made : Made) (bytes : List ℕ) → length bytes ≡ 0 → PutsValue made made bytes 0
nothing-puts made bytes none = record {
  grows = grows-along made made (subnode 0) [] (subnode-none 0 refl) (record { items = λ h x e. e; subs = λ n x e. e; left = λ ids. refl });
  here = named-zero (get_of made) (sub_of made) ∙ ap Some (sym (nil_from_length bytes none));
  weighs = omega arith;
  count = omega arith;
  loads = omega arith;
  blocks = omega arith;
}

pub item-puts : {E : Type 0} (r : Result (Made × ℕ) E) (old : Made) (bytes : List ℕ) → 1 < length bytes → length bytes ≤ 3580 → IsMade old → IfOk r (λ (s : Made × ℕ). IsMade s.0)
    → IfOk r (λ (s : Made × ℕ). Adds old.maker bytes s.0.maker s.1) → IfOk r (λ (s : Made × ℕ). all_woven s.0.subs ≡ all_woven old.subs)
    → IfOk r (λ (s : Made × ℕ). s.0.singles.items ≡ old.singles.items) → IfOk r (λ (s : Made × ℕ). PutsValue old s.0 bytes s.1)
item-puts (Err e) old bytes low high made a b c d = tt
item-puts (Ok s) old bytes low high made a b c d =
    let v = valid-hid s.0.maker s.1 bytes b.here in
    record {
      grows = grows-along old s.0 (subnode s.1) [] (subnode-none s.1 v.0) (record {
        items = kept-by_adds old.maker s.0.maker bytes s.1 b;
        subs = λ n x e. ap (λ (ss : List Sub). data_of (flattened ss) n) c ∙ e;
        left = λ ids. ap (λ (ss : List Sub). others ids (flattened ss)) c;
      });
      here = named-item (get_of s.0) (sub_of s.0) s.1 (λ z. absurd (omega (arith, v.1, z))) v.0 ∙ b.here;
      weighs = omega (arith, adds-weigh old.maker s.0.maker bytes s.1 made.packed a.packed b, cost-item (length bytes) (omega (arith, low)) high);
      count = omega (arith, ap length c);
      loads = omega (arith, b.spent, ap missing d, in_heap-short (length bytes) high, low);
      blocks = omega (arith, ap (λ (ss : List Sub). subs_size (flattened ss)) c);
    }

pub sub-puts : {E : Type 0} (r : Result (Made × ℕ) E) (old : Made) (bytes : List ℕ) (blocks : List (List ℕ)) → 3580 < length bytes → concat blocks ≡ bytes → length blocks ≡ (length bytes + 8175) / 8176
    → IfOk r (λ (s : Made × ℕ). Weaves (all_woven old.subs) blocks (all_woven s.0.subs) s.1) → IfOk r (λ (s : Made × ℕ). s.0.maker ≡ old.maker)
    → IfOk r (λ (s : Made × ℕ). s.0.singles.items ≡ old.singles.items) → IfOk r (λ (s : Made × ℕ). PutsValue old s.0 bytes s.1)
sub-puts (Err e) old bytes blocks long joined few w m d = tt
sub-puts (Ok s) old bytes blocks long joined few w m d = record {
  grows = grows-along old s.0 (subnode s.1) (s.1 ∷ []) (subnode-one s.1 w.kind) (record {
    items = λ h x e. ap (λ (g : List (List (List ℕ))). item_in g h) m ∙ e;
    subs = weave-keeps (all_woven old.subs) (all_woven s.0.subs) blocks s.1 w;
    left = weave-left (all_woven old.subs) (all_woven s.0.subs) blocks s.1 w;
  });
  here = named-sub (get_of s.0) (sub_of s.0) s.1 w.kind ∙ ap (option_map concat) (weave-here (all_woven old.subs) (all_woven s.0.subs) blocks s.1 w) ∙ ap Some joined;
  weighs = omega (arith, ap weight m);
  count = omega (arith, ap length w.new_is, ap length w.old_is, length-append w.before (plain s.1 blocks ∷ w.after), length-append w.before w.after, subnodes-long (length bytes) long);
  loads = omega (arith, ap spread m, ap missing d);
  blocks = omega (arith, weave-size (all_woven old.subs) (all_woven s.0.subs) blocks s.1 w, few, in_subnode-long (length bytes) long);
}
