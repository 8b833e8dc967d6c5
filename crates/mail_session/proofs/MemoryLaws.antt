-- What copies of nodes tell, and the pins that have them.
use Rattle.std.proofs.Common.{◌≡◌, ◌∙◌, ◌⊎◌, inl, inr, ℕ, suc, ◌+◌, ◌-◌, ◌^◌, ◌<◌, ◌≤◌, ◌==◌, eqb, Bool, true, false, get_or, List, [], ◌∷◌, ◌++◌, map, length, remove, position, Option, None, Some, IsSome, is_some, if◌then◌else◌, refl, sym, ap, subst, arith, ⊎_elim, ◌||◌}
use Rattle.std.specs.List.{position_or_len}
use Rattle.std.specs.Ordering.{nat_cmp}
use Rattle.std.specs.BTreeMap as tree
use Rattle.std.proofs.lemmas.Bool.{cases_eq, cases_lt, eqb-false, eqb-true, le-ltb, lt-ltb}
use Rattle.std.proofs.lemmas.List.{length-map, map-append}
use Rattle.pst_base.specs.declared.ids.Nid.{Nid}
use Rattle.node_port.specs.declared.node.NodeRec.{NodeRec}
use Rattle.node_port.specs.Nodes.{IsAfter, IsNext, Nodes, node_at}
use Rattle.node_port.specs.Pins.{AddsPin, has_pin, opened_without, without_pin}
use Rattle.mail_session.specs.declared.copied.MemoryPin.{MemoryPin}
use Rattle.mail_session.specs.Memory.{Copied, Copies, CopiesTo, IsNextCopied, IsNextNode, TellsCopy, pin_at, pins_of, pins_without, told_of}

-- ---- a copy, node by node

after_more : (passed : Option Nid) (n q : ℕ) → IsAfter passed n → n < q → IsAfter passed q
after_more None n q is lt = tt
after_more (Some nid) n q is lt = omega (arith, is, lt)

-- the least node above those that were copied is one more
pub copies_next : (N : Nodes) (passed : Option Nid) (m n : Copied) (next : Nid × NodeRec) → tree.Updates nat_cmp m n (next.0).bits (Some next.1) → CopiesTo passed m N → IsNextNode N passed (Some next) → CopiesTo (Some next.0) n N
copies_next N passed m n next put so_far is q = ⊎_elim
    (λ below.
    let same = apart (λ equal. absurd (omega (arith, equal, below))) in
    ((λ above. absurd (omega (arith, above, below))), inr (⊎_elim (λ after. (is.0).2 q after below ∙ sym ((so_far q).0 after) ∙ sym same) (λ copied. copied ∙ sym same) (so_far q).1)))
    (λ least. ⊎_elim
    (λ here. ((λ above. absurd (omega (arith, above, here))), inr (subst (λ k. node_at N k ≡ tree.get nat_cmp n k) here (is.1 ∙ sym put.1))))
    (λ other.
    let above : (next.0).bits < q = omega (arith, least, other) in
    let same = apart (λ equal. absurd (omega (arith, equal, above))) in
    ((λ after. same ∙ (so_far q).0 (after_more passed (next.0).bits q (is.0).0 above)), inl above))
    (cases_eq (next.0).bits q))
    (cases_lt q (next.0).bits)
  where
    apart : (q ≡ (next.0).bits → ⊥) → tree.get nat_cmp n q ≡ tree.get nat_cmp m q
    apart other = grind (arith, put.0 q, other)

-- ---- the pin of a number

-- whether a pin has the number
abbrev pub numbered : ℕ → MemoryPin → Bool
numbered p pin = pin.number == p

-- the place of the first that has it, or the length
abbrev place : ℕ → List MemoryPin → ℕ
place p pins = position_or_len (numbered p) pins

-- it stands at the first place with its number
at_first : (p : ℕ) (pins : List MemoryPin) (d : MemoryPin) → place p pins < length pins → (pin_at p pins ≡ Some (get_or pins (place p pins) d)) × (pins_without p pins ≡ remove pins (place p pins))
at_first p [] d lt = absurd (omega (arith, lt))
at_first p (pin ∷ pins) d lt = by (at_first p pins d) (numbered p pin) refl lt
  where
    by : (place p pins < length pins → (pin_at p pins ≡ Some (get_or pins (place p pins) d)) × (pins_without p pins ≡ remove pins (place p pins))) → (b : Bool) → numbered p pin ≡ b
        → place p (pin ∷ pins) < length (pin ∷ pins) → (pin_at p (pin ∷ pins) ≡ Some (get_or (pin ∷ pins) (place p (pin ∷ pins)) d)) × (pins_without p (pin ∷ pins) ≡ remove (pin ∷ pins) (place p (pin ∷ pins)))
    by below true is = rw is (λ lt. (refl, refl))
    by below false is = rw is (λ lt.
        let rest = below (omega (arith, lt)) in
        let e : suc (place p pins) ≡ 1 + place p pins = omega arith in
        (rest.0 ∙ ap (λ (k : ℕ). Some (get_or (pin ∷ pins) k d)) e, ap (λ (l : List MemoryPin). pin ∷ l) rest.1 ∙ ap (remove (pin ∷ pins)) e))

none_first : (p : ℕ) (pins : List MemoryPin) → length pins ≤ place p pins → (pin_at p pins ≡ None) × (pins_without p pins ≡ pins)
none_first p [] most = (refl, refl)
none_first p (pin ∷ pins) most = by (none_first p pins) (numbered p pin) refl most
  where
    by : (length pins ≤ place p pins → (pin_at p pins ≡ None) × (pins_without p pins ≡ pins)) → (b : Bool) → numbered p pin ≡ b → length (pin ∷ pins) ≤ place p (pin ∷ pins) → (pin_at p (pin ∷ pins) ≡ None) × (pins_without p (pin ∷ pins) ≡ pin ∷ pins)
    by below true is = rw is (λ most. absurd (omega (arith, most)))
    by below false is = rw is (λ most. let rest = below (omega (arith, most)) in (rest.0, ap (λ (l : List MemoryPin). pin ∷ l) rest.1))

-- the same by the place that a search gives
pub at_place : (p : ℕ) (pins : List MemoryPin) (d : MemoryPin) (i : ℕ) → position (numbered p) pins ≡ Some i → (pin_at p pins ≡ Some (get_or pins i d)) × (pins_without p pins ≡ remove pins i)
at_place p pins d i is = elim (cases_lt (place p pins) (length pins)) [
  | inl lt ↦
      let same : place p pins ≡ i = some_one (sym (ap (λ (b : Bool). if b then Some (place p pins) else None) (lt-ltb (place p pins) (length pins) lt)) ∙ is) in
      subst (λ (k : ℕ). (pin_at p pins ≡ Some (get_or pins k d)) × (pins_without p pins ≡ remove pins k)) same (at_first p pins d lt)
  | inr past ↦ absurd (none_some (sym (ap (λ (b : Bool). if b then Some (place p pins) else None) (le-ltb (place p pins) (length pins) past)) ∙ is))
]
  where
    some_one : ◌≡◌ {A = Option ℕ} (Some (place p pins)) (Some i) → place p pins ≡ i
    some_one e = cc

    none_some : ◌≡◌ {A = Option ℕ} None (Some i) → ⊥
    none_some e = cc

pub no_place : (p : ℕ) (pins : List MemoryPin) → position (numbered p) pins ≡ None → (pin_at p pins ≡ None) × (pins_without p pins ≡ pins)
no_place p pins is = elim (cases_lt (place p pins) (length pins)) [
  | inl lt ↦ absurd (none_some (sym is ∙ ap (λ (b : Bool). if b then Some (place p pins) else None) (lt-ltb (place p pins) (length pins) lt)))
  | inr past ↦ none_first p pins past
]
  where
    none_some : ◌≡◌ {A = Option ℕ} None (Some (place p pins)) → ⊥
    none_some e = cc

-- ---- the pins as they are told

-- a pin of a number is there just where one is open
has_at : (p given : ℕ) (pins : List MemoryPin) → has_pin p (pins_of given pins) ≡ is_some (pin_at p pins)
has_at p given [] = refl
has_at p given (pin ∷ pins) = by (has_at p given pins) (eqb pin.number p)
  where
    by : has_pin p (pins_of given pins) ≡ is_some (pin_at p pins) → (b : Bool) → (b || has_pin p (pins_of given pins)) ≡ is_some (if b then Some pin else pin_at p pins)
    by rest true = refl
    by rest false = rest

pub has_none : (p given : ℕ) (pins : List MemoryPin) → position (numbered p) pins ≡ None → has_pin p (pins_of given pins) ≡ false
has_none p given pins is = has_at p given pins ∙ ap is_some (no_place p pins is).0

pub has_some : (p given : ℕ) (pins : List MemoryPin) (d : MemoryPin) (i : ℕ) → position (numbered p) pins ≡ Some i → has_pin p (pins_of given pins) ≡ true
has_some p given pins d i is = has_at p given pins ∙ ap is_some (at_place p pins d i is).0

-- without one pin the same are told without it
told_without : (p : ℕ) (pins : List MemoryPin) → map told_of (pins_without p pins) ≡ opened_without p (map told_of pins)
told_without p [] = refl
told_without p (pin ∷ pins) = by (told_without p pins) (eqb pin.number p)
  where
    by : map told_of (pins_without p pins) ≡ opened_without p (map told_of pins) → (b : Bool) → map told_of (if b then pins else pin ∷ pins_without p pins) ≡ (if b then map told_of pins else told_of pin ∷ opened_without p (map told_of pins))
    by same true = refl
    by same false = ap (λ (rest : List (ℕ × List Bool)). told_of pin ∷ rest) same

pub pins_gone : (p given : ℕ) (pins now : List MemoryPin) → now ≡ pins_without p pins → pins_of given now ≡ without_pin p (pins_of given pins)
pins_gone p given pins now is = ap (λ (opened : List (ℕ × List Bool)). record { given = given; opened = opened }) (ap (map told_of) is ∙ told_without p pins)

-- and each other is there
pub other_at : (p q : ℕ) (pins : List MemoryPin) → (q ≡ p → ⊥) → pin_at q (pins_without p pins) ≡ pin_at q pins
other_at p q [] other = refl
other_at p q (pin ∷ pins) other = by (other_at p q pins other) (eqb pin.number p) (eqb pin.number q) refl refl
  where
    by : pin_at q (pins_without p pins) ≡ pin_at q pins → (b d : Bool) → eqb pin.number p ≡ b → eqb pin.number q ≡ d → pin_at q (if b then pins else pin ∷ pins_without p pins) ≡ (if d then Some pin else pin_at q pins)
    by rest true true e f = absurd (other (sym (eqb-true pin.number q f) ∙ eqb-true pin.number p e))
    by rest true false e f = refl
    by rest false true e f = ap (λ (b : Bool). if b then Some pin else pin_at q (pins_without p pins)) f
    by rest false false e f = ap (λ (b : Bool). if b then Some pin else pin_at q (pins_without p pins)) f ∙ rest

-- ---- one pin more

pub told_more : (given : ℕ) (pins : List MemoryPin) (pin : MemoryPin) (now : List MemoryPin) → now ≡ pins ++ pin ∷ [] → pins_of given now ≡ record { given = given; opened = map told_of pins ++ told_of pin ∷ [] }
told_more given pins pin now is = ap (λ (opened : List (ℕ × List Bool)). record { given = given; opened = opened }) (ap (map told_of) is ∙ map-append told_of pins (pin ∷ []))

-- it is the one of its number, if no other had that
new_at : (pins : List MemoryPin) (pin : MemoryPin) → pin_at pin.number pins ≡ None → pin_at pin.number (pins ++ pin ∷ []) ≡ Some pin
new_at [] pin none = by (eqb pin.number pin.number) refl
  where
    by : (b : Bool) → eqb pin.number pin.number ≡ b → ◌≡◌ {A = Option MemoryPin} (if b then Some pin else None) (Some pin)
    by true e = refl
    by false e = absurd (eqb-false pin.number pin.number e refl)
new_at (one ∷ pins) pin none = by (new_at pins pin) (eqb one.number pin.number) none
  where
    by : (pin_at pin.number pins ≡ None → pin_at pin.number (pins ++ pin ∷ []) ≡ Some pin) → (b : Bool) → ◌≡◌ {A = Option MemoryPin} (if b then Some one else pin_at pin.number pins) None → (if b then Some one else pin_at pin.number (pins ++ pin ∷ [])) ≡ Some pin
    by rest true e = absurd (cc)
    by rest false e = rest e

-- and tells what it copied
pub new_tells : (pins now : List MemoryPin) (pin : MemoryPin) (N : Nodes) → position (numbered pin.number) pins ≡ None → now ≡ pins ++ pin ∷ [] → Copies pin.nodes N → TellsCopy (pin_at pin.number now) N
new_tells pins now pin N none is copies = subst (λ (o : Option MemoryPin). TellsCopy o N) (sym (ap (pin_at pin.number) is ∙ new_at pins pin (no_place pin.number pins none).0)) copies

-- each other tells what it told
pub still_tells : (q : ℕ) (pins more : List MemoryPin) (N : Nodes) → TellsCopy (pin_at q pins) N → TellsCopy (pin_at q (pins ++ more)) N
still_tells q [] more N = λ is. absurd is
still_tells q (pin ∷ pins) more N = by (still_tells q pins more N) (eqb pin.number q)
  where
    by : (TellsCopy (pin_at q pins) N → TellsCopy (pin_at q (pins ++ more)) N) → (b : Bool) → TellsCopy (if b then Some pin else pin_at q pins) N → TellsCopy (if b then Some pin else pin_at q (pins ++ more)) N
    by rest true is = is
    by rest false is = rest is

pub still_told : (q : ℕ) (pins : List MemoryPin) (pin : MemoryPin) (now : List MemoryPin) (N : Nodes) → now ≡ pins ++ pin ∷ [] → TellsCopy (pin_at q pins) N → TellsCopy (pin_at q now) N
still_told q pins pin now N is told = subst (λ (l : List MemoryPin). TellsCopy (pin_at q l) N) (sym is) (still_tells q pins (pin ∷ []) N told)

pub other_still : (p q : ℕ) (pins now : List MemoryPin) (N : Nodes) → now ≡ pins_without p pins → (q ≡ p → ⊥) → TellsCopy (pin_at q pins) N → TellsCopy (pin_at q now) N
other_still p q pins now N is other told = subst (λ (o : Option MemoryPin). TellsCopy o N) (sym (ap (pin_at q) is ∙ other_at p q pins other)) told

-- the keeper tells it as one more
pub pin_added : (given : ℕ) (pins : List MemoryPin) (pin : MemoryPin) (now : List MemoryPin) → now ≡ pins ++ pin ∷ [] → pin.number ≡ given + 1 → length pins < 16 → given < 2 ^ 32 - 1 → AddsPin (pins_of given pins) (pins_of pin.number now) pin.number
pin_added given pins pin now is number few left = record {
  few = omega (arith, few, length-map pins told_of);
  left = left;
  number = number;
  used = [];
  is = told_more pin.number pins pin now is;
}

-- ---- what a pin tells

pub clash : false ≡ true → ⊥
clash e = cc

pub none_there : {X : Type 0} (o : Option X) → is_some o ≡ false → o ≡ None
none_there None e = refl
none_there (Some x) e = absurd (cc)

-- the pin at the place of its number tells its copy
pub tells_at : (p : ℕ) (pins : List MemoryPin) (pin : MemoryPin) (i : ℕ) (M : Nodes) → position (numbered p) pins ≡ Some i → pin ≡ get_or pins i pin → TellsCopy (pin_at p pins) M → Copies pin.nodes M
tells_at p pins pin i M is at tells = subst (λ (x : MemoryPin). Copies x.nodes M) (sym at) (subst (λ (o : Option MemoryPin). TellsCopy o M) (at_place p pins pin i is).0 tells)

-- the next of a copy is the next node
pub next_tells : (m : Copied) (M : Nodes) (after next : Option Nid) → Copies m M → IsNextCopied m after next → IsNext M after next
next_tells m M after None copies is = λ q above. copies q ∙ is q above
next_tells m M after (Some next) copies is = (is.0, subst (λ (o : Option NodeRec). IsSome o) (sym (copies next.bits)) is.1, λ q above below. copies q ∙ is.2 q above below)

pub has_place : (p given : ℕ) (pins : List MemoryPin) → is_some (position (numbered p) pins) ≡ has_pin p (pins_of given pins)
has_place p given pins = by (position (numbered p) pins) refl
  where
    by : (o : Option ℕ) → position (numbered p) pins ≡ o → is_some o ≡ has_pin p (pins_of given pins)
    by None is = sym (has_none p given pins is)
    by (Some i) is = sym (some_open i is pins refl)
      where
        some_open : (i : ℕ) → position (numbered p) pins ≡ Some i → (ps : List MemoryPin) → pins ≡ ps → has_pin p (pins_of given pins) ≡ true
        some_open i is [] none = absurd (cc)
        some_open i is (pin ∷ ps) some = has_some p given pins pin i is
