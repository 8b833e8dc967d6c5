-- What is known of open pins, as pins come and go.
use Rattle.std.proofs.Common.{◌≡◌, ◌∙◌, inl, inr, ℕ, suc, ◌+◌, ◌<◌, ◌≤◌, ◌==◌, Bool, true, false, get_or, List, [], ◌∷◌, ◌++◌, map, length, remove, position, Option, None, Some, if◌then◌else◌, refl, sym, ap, subst, arith}
use Rattle.std.proofs.lemmas.Bool.{cases_Bool, cases_lt, eqb-false, eqb-true, le-ltb, lt-ltb}
use Rattle.std.specs.List.{position_or_len}
use Rattle.pst_outside.specs.World.{Image, World}
use Rattle.pst_outside.specs.Calls.{Untouched}
use Rattle.pst_outside.proofs.Moments.{stays_settled}
use Rattle.node_port.specs.Nodes.{Nodes}
use Rattle.node_port.specs.Pins.{opened_without}
use Rattle.mail_searches.specs.Searching.{Searching}
use Rattle.mail_searches.specs.declared.known.KnownSearches.{KnownSearches}
use Rattle.mail_tree.specs.declared.known.Known.{Known}
use Rattle.store_session.proofs.mail_draft_laws.Looking.{untouched_same}
use Rattle.pinned_views.specs.Telling.{HoldsPinned, KeepsTold}
use Rattle.store_session.specs.Carrying.{Has}
use Rattle.pinned_session.specs.Holding.{AreViews, IsView, TellsTree}
use Rattle.pinned_session.specs.Sitting.{AreNumbered, OpenPin, pins_without, slots_of, tree_of}
use Rattle.pinned_session.specs.declared.pins.PinView.{PinView}

-- ---- what is told stays told

pub tells_on : {holds holds' : Nodes → Type 0} (last : List ℕ) (known : Known) (of_searches : KnownSearches) (X : Searching) → ((N : Nodes) → holds N → holds' N) → TellsTree holds last known of_searches X → TellsTree holds' last known of_searches X
tells_on last known of_searches X on is = record {
  shown = record { nodes = is.shown.nodes; held = on is.shown.nodes is.shown.held; at = is.shown.at; counters = is.shown.counters };
  knows = is.knows;
  searches = is.searches;
  whole = is.whole;
  are = is.are;
}

view_on : {pinned pinned' : ℕ → Nodes → Type 0} (view : PinView) (pin : OpenPin) → ((N : Nodes) → pinned view.number N → pinned' view.number N) → IsView pinned view pin → IsView pinned' view pin
view_on view pin on is = record { number = is.number; tells = tells_on view.counts.last view.known view.searches pin.tree on is.tells }

pub views_on : {pinned pinned' : ℕ → Nodes → Type 0} (views : List PinView) (pins : List OpenPin) → ((q : ℕ) (N : Nodes) → pinned q N → pinned' q N) → AreViews pinned views pins → AreViews pinned' views pins
views_on [] [] on is = tt
views_on (view ∷ views) (pin ∷ pins) on is = (view_on view pin (on view.number) is.0, views_on views pins on is.1)
views_on [] (pin ∷ pins) on is = absurd is
views_on (view ∷ views) [] on is = absurd is

-- a store that holds more, over a world that nothing was done to, has the tree still
pub has_mapped : {holds holds' : Nodes → Type 0} {last last' : List ℕ} {known : Known} {of_searches : KnownSearches} {rests : Image → Type 0} {v w : World} (tidy : Bool) (X : Searching) → ((N : Nodes) → holds N → holds' N) → last' ≡ last → Untouched v w
    → Has holds last known of_searches rests v tidy X → Has holds' last' known of_searches rests w tidy X
has_mapped {holds' = holds'} {known = known} {of_searches = of_searches} {rests = rests} {w = w} tidy X on counted same h =
    let s = h.stores.tree.shown in
    subst (λ l. Has holds' l known of_searches rests w tidy X) (sym counted) (record {
      stores = record {
        tree = record { shown = record { nodes = s.nodes; held = on s.nodes s.held; at = s.at; counters = s.counters }; knows = h.stores.tree.knows };
        searches = h.stores.searches;
      };
      order = h.order;
      settled = stays_settled h.settled same;
      at_rest = λ told. subst rests (sym (same.stays.here told)) (h.at_rest (same.stays.told told));
    })

-- a store under its pins has the tree where the store has, and they tell what they are to tell
module _ {told pinned : ℕ → Nodes → Type 0} {holds : Nodes → Type 0} {last : List ℕ} {known : Known} {of_searches : KnownSearches} {rests : Image → Type 0} {w : World} (tidy : Bool) (X : Searching) where
  pub over_has : KeepsTold told pinned → Has holds last known of_searches rests w tidy X → Has (HoldsPinned told holds pinned) last known of_searches rests w tidy X
  over_has keeps h = has_mapped tidy X (λ N held. record { held = held; keeps = keeps }) refl (untouched_same w) h

  pub under_has : Has (HoldsPinned told holds pinned) last known of_searches rests w tidy X → Has holds last known of_searches rests w tidy X
  under_has h = has_mapped {holds = HoldsPinned told holds pinned} tidy X (λ N is. is.held) refl (untouched_same w) h

  pub under_keeps : Has (HoldsPinned told holds pinned) last known of_searches rests w tidy X → KeepsTold told pinned
  under_keeps h = h.stores.tree.shown.held.keeps

-- ---- numbers

-- none of the pins has this number
abbrev pub AreOther : ℕ → List OpenPin → Type 0
AreOther p [] = Unit {0}
AreOther p (pin ∷ pins) = (pin.number ≡ p → ⊥) × AreOther p pins

pub numbered_more : (low last : ℕ) (pins : List OpenPin) (used : List Bool) (X : Searching) → AreNumbered low last pins → AreNumbered low (last + 1) (pins ++ record { number = last + 1; used = used; tree = X } ∷ [])
numbered_more low last [] used X is = (omega (arith, is), omega arith)
numbered_more low last (pin ∷ pins) used X is = (is.0, numbered_more pin.number last pins used X is.1)

numbered_lower : (low below last : ℕ) (pins : List OpenPin) → below ≤ low → AreNumbered low last pins → AreNumbered below last pins
numbered_lower low below last [] le is = omega (arith, le, is)
numbered_lower low below last (pin ∷ pins) le is = (omega (arith, le, is.0), is.1)

pub numbered_without : (p low last : ℕ) (pins : List OpenPin) → AreNumbered low last pins → AreNumbered low last (pins_without p pins)
numbered_without p low last [] is = is
numbered_without p low last (pin ∷ pins) is = elim (cases_Bool (pin.number == p)) [
  | inl same ↦ rw same (numbered_lower pin.number low last pins (omega (arith, is.0)) is.1)
  | inr differs ↦ rw differs (is.0, numbered_without p pin.number last pins is.1)
]

above_other : (p low last : ℕ) (pins : List OpenPin) → p ≤ low → AreNumbered low last pins → AreOther p pins
above_other p low last [] le is = tt
above_other p low last (pin ∷ pins) le is = (λ same. absurd (omega (arith, le, is.0, same)), above_other p pin.number last pins (omega (arith, le, is.0)) is.1)

pub without_other : (p low last : ℕ) (pins : List OpenPin) → AreNumbered low last pins → AreOther p (pins_without p pins)
without_other p low last [] is = tt
without_other p low last (pin ∷ pins) is = elim (cases_Bool (pin.number == p)) [
  | inl same ↦ rw same (above_other p pin.number last pins (omega (arith, eqb-true pin.number p same)) is.1)
  | inr differs ↦ rw differs (eqb-false pin.number p differs, without_other p pin.number last pins is.1)
]

pub views_other : {pinned pinned' : ℕ → Nodes → Type 0} (p : ℕ) (views : List PinView) (pins : List OpenPin) → AreOther p pins → ((q : ℕ) (N : Nodes) → (q ≡ p → ⊥) → pinned q N → pinned' q N) → AreViews pinned views pins → AreViews pinned' views pins
views_other p [] [] others on is = tt
views_other p (view ∷ views) (pin ∷ pins) others on is = (view_on view pin (λ N told. on view.number N (λ same. others.0 (sym (is.0).number ∙ same)) told) is.0, views_other p views pins others.1 on is.1)
views_other p [] (pin ∷ pins) others on is = absurd is
views_other p (view ∷ views) [] others on is = absurd is

-- ---- the slots that pins hold

pub slots_more : (pins more : List OpenPin) → map slots_of (pins ++ more) ≡ map slots_of pins ++ map slots_of more
slots_more [] more = refl
slots_more (pin ∷ pins) more = ap (λ (l : List (ℕ × List Bool)). slots_of pin ∷ l) (slots_more pins more)

pub slots_count : (pins : List OpenPin) → length (map slots_of pins) ≡ length pins
slots_count [] = refl
slots_count (pin ∷ pins) = ap suc (slots_count pins)

pub slots_without : (p : ℕ) (pins : List OpenPin) → map slots_of (pins_without p pins) ≡ opened_without p (map slots_of pins)
slots_without p [] = refl
slots_without p (pin ∷ pins) = elim (cases_Bool (pin.number == p)) [
  | inl same ↦ rw same refl
  | inr differs ↦ rw differs (ap (λ (l : List (ℕ × List Bool)). slots_of pin ∷ l) (slots_without p pins))
]

-- ---- views at their places

-- what is known of one more pin
pub views_more : (pinned : ℕ → Nodes → Type 0) (views : List PinView) (pins : List OpenPin) (view : PinView) (pin : OpenPin) → AreViews pinned views pins → IsView pinned view pin → AreViews pinned (views ++ view ∷ []) (pins ++ pin ∷ [])
views_more pinned [] [] view pin is one = (one, tt)
views_more pinned (v ∷ views) (p ∷ pins) view pin is one = (is.0, views_more pinned views pins view pin is.1 one)
views_more pinned [] (p ∷ pins) view pin is one = absurd is
views_more pinned (v ∷ views) [] view pin is one = absurd is

-- whether a view has the number
abbrev pub named : ℕ → PinView → Bool
named p view = view.number == p

-- the place of the first that has it, or the length
abbrev place : ℕ → List PinView → ℕ
place p views = position_or_len (named p) views

-- at a place stands what is known of the pin of a number
abbrev pub IsAt : (ℕ → Nodes → Type 0) → ℕ → List PinView → List OpenPin → ℕ → PinView → Type 0
IsAt pinned p views pins i d =
    (pin : OpenPin) × (tree_of p pins ≡ Some pin.tree) × IsView pinned (get_or views i d) pin × ((get_or views i d).number ≡ p) × AreViews pinned (remove views i) (pins_without p pins)

module _ (pinned : ℕ → Nodes → Type 0) (p : ℕ) where
  at-first : (views : List PinView) (pins : List OpenPin) (d : PinView) → AreViews pinned views pins → place p views < length views → IsAt pinned p views pins (place p views) d
  at-first [] pins d are lt = absurd (omega (arith, lt))
  at-first (view ∷ views) [] d are lt = absurd are
  at-first (view ∷ views) (pin ∷ pins) d are lt = by (at-first views pins d are.1) (named p view) refl lt
    where
      by : (place p views < length views → IsAt pinned p views pins (place p views) d) → (b : Bool) → named p view ≡ b → place p (view ∷ views) < length (view ∷ views) → IsAt pinned p (view ∷ views) (pin ∷ pins) (place p (view ∷ views)) d
      by below true is =
          let also : (pin.number == p) ≡ true = ap (λ n. n == p) (sym (are.0).number) ∙ is in
          rw (is, also) (λ lt. (pin, refl, are.0, eqb-true view.number p is, are.1))
      by below false is =
          let also : (pin.number == p) ≡ false = ap (λ n. n == p) (sym (are.0).number) ∙ is in
          let e : suc (place p views) ≡ 1 + place p views = omega arith in
          rw (is, also) (λ lt.
          let rest = below (omega (arith, lt)) in (
            rest.0,
            rest.1,
            subst (λ (k : ℕ). IsView pinned (get_or (view ∷ views) k d) rest.0) e rest.2,
            subst (λ (k : ℕ). (get_or (view ∷ views) k d).number ≡ p) e rest.3,
            subst (λ (k : ℕ). AreViews pinned (remove (view ∷ views) k) (pin ∷ pins_without p pins)) e (are.0, rest.4),
          ))

  none-first : (views : List PinView) (pins : List OpenPin) → AreViews pinned views pins → length views ≤ place p views → (tree_of p pins ≡ None) × (pins_without p pins ≡ pins)
  none-first [] [] are most = (refl, refl)
  none-first [] (pin ∷ pins) are most = absurd are
  none-first (view ∷ views) [] are most = absurd are
  none-first (view ∷ views) (pin ∷ pins) are most = by (none-first views pins are.1) (named p view) refl most
    where
      by : (length views ≤ place p views → (tree_of p pins ≡ None) × (pins_without p pins ≡ pins)) → (b : Bool) → named p view ≡ b → length (view ∷ views) ≤ place p (view ∷ views)
          → (tree_of p (pin ∷ pins) ≡ None) × (pins_without p (pin ∷ pins) ≡ pin ∷ pins)
      by below true is = rw is (λ most. absurd (omega (arith, most)))
      by below false is =
          let also : (pin.number == p) ≡ false = ap (λ n. n == p) (sym (are.0).number) ∙ is in
          rw (is, also) (λ most. let rest = below (omega (arith, most)) in (rest.0, ap (λ (l : List OpenPin). pin ∷ l) rest.1))

  -- the same by the place that a search gives
  pub at-place : (views : List PinView) (pins : List OpenPin) (d : PinView) (i : ℕ) → AreViews pinned views pins → position (named p) views ≡ Some i → IsAt pinned p views pins i d
  at-place views pins d i are is = elim (cases_lt (place p views) (length views)) [
    | inl lt ↦
        let same : place p views ≡ i = some-one (sym (ap (λ (b : Bool). if b then Some (place p views) else None) (lt-ltb (place p views) (length views) lt)) ∙ is) in
        subst (λ (k : ℕ). IsAt pinned p views pins k d) same (at-first views pins d are lt)
    | inr past ↦ absurd (none-some (sym (ap (λ (b : Bool). if b then Some (place p views) else None) (le-ltb (place p views) (length views) past)) ∙ is))
  ]
    where
      some-one : ◌≡◌ {A = Option ℕ} (Some (place p views)) (Some i) → place p views ≡ i
      some-one e = cc

      none-some : ◌≡◌ {A = Option ℕ} None (Some i) → ⊥
      none-some e = cc

  pub no-place : (views : List PinView) (pins : List OpenPin) → AreViews pinned views pins → position (named p) views ≡ None → (tree_of p pins ≡ None) × (pins_without p pins ≡ pins)
  no-place views pins are is = elim (cases_lt (place p views) (length views)) [
    | inl lt ↦ absurd (none-some (sym is ∙ ap (λ (b : Bool). if b then Some (place p views) else None) (lt-ltb (place p views) (length views) lt)))
    | inr past ↦ none-first views pins are past
  ]
    where
      none-some : ◌≡◌ {A = Option ℕ} None (Some (place p views)) → ⊥
      none-some e = cc
