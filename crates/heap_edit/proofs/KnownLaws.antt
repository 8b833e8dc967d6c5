-- What is said of all blocks that agree with the known ones.
use Rattle.std.proofs.Common.{◌≡◌, ◌∙◌, ◌<◌, ◌+◌, inl, inr, ℕ, Bool, true, false, List, [], length, get_or, slice_get, None, Some, Option, IsSome, is_some, refl, sym, ap, subst, arith}
use Rattle.std.proofs.lemmas.Bool.{cases_eq, cases_lt, true≢false}
use Rattle.std.proofs.lemmas.Option.{get_or_from_slice_get, same_Some}
use Rattle.heap_items.specs.Items.{AddsItem}
use Rattle.heap_on_node.specs.Heap.{HasMap, IsStart, item}
use Rattle.heap_edit.specs.Edits.{Edits, IsWhole, PutsOne, edited, or_old, put_at, with_at}
use Rattle.heap_edit.specs.Heaps.{Adds}
use Rattle.heap_edit.specs.Known.{AreKnown, IsUnknown, Known, Makes, MakesHeap, Reads, blocks_now}
use Rattle.heap_edit.proofs.EditLaws.{edited-end, edited-in, edited-none, get_or-edited, length-edited, put-here, put-other}
use Rattle.heap_edit.proofs.HeapLaws.{adds-start}

none-some : {A : Type 0} (x : A) → None ≡ Some x → ⊥
none-some x e = cc

not-some : {A : Type 0} (o : Option A) → o ≡ None → IsSome o → ⊥
not-some o e h = true≢false (sym h ∙ ap is_some e)

-- ---- how many blocks there are

pub length-now : (e : Known) (old : List (List ℕ)) → length (blocks_now e old) ≡ e.len
length-now e old = length-edited 0 e.puts e.len old

pub whole-none : (n : ℕ) → IsWhole n [] n
whole-none n = record {
  all = omega arith;
  new = λ p low high. absurd (omega arith);
  within = λ p h. absurd (true≢false (sym h));
}

put-some : (p q : ℕ) (b : List ℕ) (old new : Edits) → PutsOne p b old new → IsSome (put_at old q) → IsSome (put_at new q)
put-some p q b old new h some = elim (cases_eq q p) [
  | inl e ↦ subst (λ (n : ℕ). IsSome (put_at new n)) (sym e) (ap is_some (put-here p b old new h))
  | inr ne ↦ ap is_some (put-other p q b old new h ne) ∙ some
]

-- a block is put in place of one
pub whole-in : (was p n : ℕ) (b : List ℕ) (old new : Edits) → IsWhole was old n → PutsOne p b old new → p < n → IsWhole was new n
whole-in was p n b old new w h low = record {
  all = w.all;
  new = λ q from to. put-some p q b old new h (w.new q from to);
  within = λ q some. elim (cases_eq q p) [
    | inl e ↦ omega arith
    | inr ne ↦ w.within q (sym (ap is_some (put-other p q b old new h ne)) ∙ some)
  ];
}

-- or behind all
pub whole-end : (was p n : ℕ) (b : List ℕ) (old new : Edits) → IsWhole was old n → PutsOne p b old new → p ≡ n → IsWhole was new (n + 1)
whole-end was p n b old new w h end = record {
  all = omega (arith, w.all);
  new = λ q from to. elim (cases_eq q p) [
    | inl e ↦ subst (λ (m : ℕ). IsSome (put_at new m)) (sym e) (ap is_some (put-here p b old new h))
    | inr ne ↦ put-some p q b old new h (w.new q from (grind arith))
  ];
  within = λ q some. elim (cases_eq q p) [
    | inl e ↦ omega arith
    | inr ne ↦ omega (arith, w.within q (sym (ap is_some (put-other p q b old new h ne)) ∙ some))
  ];
}

-- ---- what is known, and what is put

-- a block is put, and what is known stays
pub makes-in : (e new : Known) (p : ℕ) (b : List ℕ) → new.was ≡ e.was → new.known ≡ e.known → PutsOne p b e.puts new.puts → new.len ≡ e.len → p < e.len
    → Makes (λ old now. now ≡ with_at old p b) e new
makes-in e new p b was known h len low old k = (
  record { count = k.count ∙ sym was; each = λ q x is. k.each q x (ap (λ (es : Edits). put_at es q) (sym known) ∙ is) },
  ap (λ (n : ℕ). edited new.puts n old) len ∙ edited-in p e.len b e.puts new.puts old h low,
)

pub makes-end : (e new : Known) (p : ℕ) (b : List ℕ) → new.was ≡ e.was → new.known ≡ e.known → PutsOne p b e.puts new.puts → new.len ≡ e.len + 1 → p ≡ e.len
    → Makes (λ old now. now ≡ with_at old p b) e new
makes-end e new p b was known h len end old k = (
  record { count = k.count ∙ sym was; each = λ q x is. k.each q x (ap (λ (es : Edits). put_at es q) (sym known) ∙ is) },
  ap (λ (n : ℕ). edited new.puts n old) len ∙ edited-end p e.len b e.puts new.puts old h end,
)

-- one more block is known
pub knows-more : (e new : Known) (p : ℕ) (b : List ℕ) → new.was ≡ e.was → PutsOne p b e.known new.known → (old : List (List ℕ)) → AreKnown e old → slice_get old p ≡ Some b → AreKnown new old
knows-more e new p b was h old k here = record {
  count = k.count ∙ sym was;
  each = λ q x is. elim (cases_eq q p) [
    | inl same ↦
        ap (slice_get old) same
        ∙ here ∙ ap Some (same_Some b x (sym (put-here p b e.known new.known h) ∙ ap (put_at new.known) (sym same) ∙ is))
    | inr ne ↦ k.each q x (sym (put-other p q b e.known new.known h ne) ∙ is)
  ];
}

-- and is unknown no more
pub known-now : (new : Known) (p : ℕ) (b : List ℕ) (was : Edits) → PutsOne p b was new.known → IsUnknown new p → ⊥
known-now new p b was h un = none-some b (sym un.unknown ∙ put-here p b was new.known h)

-- nothing is known or put
pub knows-none : (e : Known) (n : ℕ) → e.was ≡ n → e.known ≡ [] → (old : List (List ℕ)) → length old ≡ n → AreKnown e old
knows-none e n was known old len = record { count = len ∙ sym was; each = λ p b is. absurd (none-some b (ap (λ (es : Edits). put_at es p) (sym known) ∙ is)) }

pub now-none : (e : Known) (old : List (List ℕ)) → e.puts ≡ [] → e.len ≡ e.was → AreKnown e old → blocks_now e old ≡ old
now-none e old puts len k = ap (λ (es : Edits). edited es e.len old) puts ∙ edited-none e.len old (k.count ∙ sym len)

-- all that was put is taken back
pub undone : (e new : Known) → new.was ≡ e.was → new.known ≡ e.known → new.puts ≡ [] → new.len ≡ e.was → (old : List (List ℕ)) → AreKnown e old → AreKnown new old × (blocks_now new old ≡ old)
undone e new was known puts len old k =
    let now : AreKnown new old = record { count = k.count ∙ sym was; each = λ q x is. k.each q x (ap (λ (es : Edits). put_at es q) (sym known) ∙ is) } in
    (now, now-none new old puts (len ∙ sym was) now)

-- ---- one block

pub put-found : (e : Known) (p : ℕ) (b : List ℕ) → p < e.len → put_at e.puts p ≡ Some b → (old : List (List ℕ)) → AreKnown e old → b ≡ get_or (blocks_now e old) p []
put-found e p b low put old k = sym (get_or-edited p e.puts e.len old [] low ∙ ap (λ (o : Option (List ℕ)). or_old o (get_or old p [])) put)

pub known-found : (e : Known) (p : ℕ) (b : List ℕ) → p < e.len → put_at e.puts p ≡ None → put_at e.known p ≡ Some b → (old : List (List ℕ)) → AreKnown e old → b ≡ get_or (blocks_now e old) p []
known-found e p b low unput known old k =
    sym (get_or-edited p e.puts e.len old [] low
    ∙ ap (λ (o : Option (List ℕ)). or_old o (get_or old p [])) unput ∙ get_or_from_slice_get old p b [] (k.each p b known))

pub unknown-here : (e : Known) (p : ℕ) → IsWhole e.was e.puts e.len → p < e.len → put_at e.puts p ≡ None → put_at e.known p ≡ None → IsUnknown e p
unknown-here e p w low unput unknown = record {
  was = elim (cases_lt p e.was) [
    | inl in_old ↦ in_old
    | inr new ↦ absurd (not-some (put_at e.puts p) unput (w.new p new low))
  ];
  unknown = unknown;
  unput = unput;
}

-- the edit is whole for whatever was there
pub whole-of : (e : Known) (puts : Edits) (n : ℕ) → puts ≡ e.puts → n ≡ e.len → IsWhole e.was e.puts e.len → (old : List (List ℕ)) → AreKnown e old → IsWhole (length old) puts n
whole-of e puts n same len w old k = rw (same, len, k.count) w

-- a block without a page map is none of a heap's
pub no-map : (blocks : List (List ℕ)) (k : ℕ) (b : List ℕ) (t : Bool) → t ≡ false → (HasMap b → t ≡ true) → b ≡ get_or blocks k [] → k < length blocks → IsStart blocks → ⊥
no-map blocks k b t f is here low start = true≢false (sym (is (subst HasMap (sym here) (start.maps k low))) ∙ f)

-- ---- readings

-- what is added to each heap that agrees with what is known is added to its reading
pub reads-adds : (e new : Known) (x : List ℕ) (hid : ℕ) → MakesHeap (λ old now. Adds old hid x now) e new → (old : List (List ℕ)) (get : ℕ → Option (List ℕ)) → Reads e old get
    → AddsItem (Reads new old) get x hid
reads-adds e new x hid makes old get reads =
    let made = makes old reads.known reads.start in
    record {
      get = item (blocks_now new old);
      told = record { known = made.0; start = adds-start (blocks_now e old) hid x (blocks_now new old) reads.start made.1; items = λ h. refl };
      here = made.1.here;
      free = reads.items hid ∙ made.1.free;
      others = λ h other. made.1.others h other ∙ sym (reads.items h);
      kind = made.1.kind;
      some = made.1.some;
    }
