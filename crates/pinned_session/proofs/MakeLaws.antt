-- The state of a session after a pin was made or given up.
use Rattle.std.proofs.Common.{◌≡◌, ◌∙◌, inl, inr, ℕ, ◌+◌, ◌-◌, ◌^◌, ◌<◌, ◌≤◌, List, [], ◌∷◌, ◌++◌, map, length, remove, Option, None, Some, refl, sym, ap, subst, arith}
use Rattle.std.proofs.lemmas.Bool.{false≢true}
use Rattle.node_port.specs.Nodes.{Nodes}
use Rattle.node_port.specs.Pins.{AddsPin, ArePinsFull, Pins, without_pin as kept_without}
use Rattle.node_port.specs.Stops.{Room}
use Rattle.mail_searches.specs.Searching.{Searching}
use Rattle.pinned_session.specs.Holding.{AreViews, HasSitting, TellsTree}
use Rattle.session_lines.specs.Texts.{pin_text}
use Rattle.session_lines.specs.declared.line.PinReply.TheVariants.{Pinned, Unpinned}
use Rattle.std.specs.Prelude.{IsSome, option_to_list}
use Rattle.pinned_session.specs.Pinning.{PinsAs, UnpinsAs}
use Rattle.pinned_session.specs.Run.{IsFull, MakesPin, unpinned_text}
use Rattle.pinned_session.specs.Sitting.{OpenPin, Sitting, pins_of, pins_without, slots_of, tree_at, tree_of, with_tree, without_pin}
use Rattle.pinned_session.specs.Viewing.{Viewing, standing, viewing_of}
use Rattle.pinned_session.specs.Views.{place_of}
use Rattle.pinned_session.specs.declared.pins.PinView.{PinView}
use Rattle.pinned_session.specs.declared.views.OpenViews.{OpenViews}
use Rattle.pinned_session.proofs.PinLaws.{IsAt, at-place, no-place, numbered_more, numbered_without, slots_count, slots_more, slots_without, views_more, views_on, views_other, without_other}

-- ---- none can be made

pub full_of : (S : Sitting) (pins : Pins) → pins ≡ pins_of S → ArePinsFull pins → IsFull S
full_of S pins is full = by (subst ArePinsFull is full)
  where
    by : ArePinsFull (pins_of S) → IsFull S
    by (inl many) = inl (omega (arith, many, slots_count S.pins))
    by (inr spent) = inr spent

pub full_given : (S : Sitting) (count : ℕ) → count ≡ S.given → 2 ^ 32 - 1 ≤ count → IsFull S
full_given S count is spent = inr (subst (λ n. 2 ^ 32 - 1 ≤ n) is spent)

module _ {has has' : Searching → Type 0} {pinned pinned' : ℕ → Nodes → Type 0} {room room' : Room} {known : List PinView} {count : ℕ} {shown : OpenViews} {front : List ℕ} (S : Sitting) (h : HasSitting has pinned room known count shown front S) (stays : has S.now → has' S.now) (found : room'.found ≡ room.found) where
  -- ---- the pins stay

  pub sitting_same : ((q : ℕ) (N : Nodes) → pinned q N → pinned' q N) → room'.pins ≡ room.pins → HasSitting has' pinned' room' known count shown front S
  sitting_same on same = record {
    store = stays h.store;
    views = views_on known S.pins on h.views;
    pins = same ∙ h.pins;
    given = h.given;
    numbered = h.numbered;
    found = found ∙ h.found;
    shows = h.shows;
  }

  -- ---- one is made

  pub sitting_made : (view : PinView) (p : ℕ) → ((q : ℕ) (N : Nodes) → pinned q N → pinned' q N) → AddsPin room.pins room'.pins p → view.number ≡ count + 1 → TellsTree (pinned' (count + 1)) view.counts.last view.known view.searches S.now
      → (Z : Sitting) × MakesPin S Z × (Z.given ≡ count + 1) × HasSitting has' pinned' room' (known ++ view ∷ []) (count + 1) shown front Z
  sitting_made view p on adds number tells =
      let pin : OpenPin = record { number = S.given + 1; used = adds.used; tree = S.now } in
      let Z : Sitting = record S { given = S.given + 1; pins = S.pins ++ pin ∷ [] } in
      let next : p ≡ S.given + 1 = adds.number ∙ ap (λ (q : Pins). q.given + 1) h.pins in
      let few : length (map slots_of S.pins) < 16 = subst (λ (q : Pins). length q.opened < 16) h.pins adds.few in
      let also : count + 1 ≡ S.given + 1 = ap (λ n. n + 1) h.given in
      let opened : room'.pins ≡ record { given = S.given + 1; opened = map slots_of S.pins ++ (S.given + 1, adds.used) ∷ [] } = adds.is ∙ (λ i. record { given = next i; opened = (h.pins i).opened ++ (next i, adds.used) ∷ [] }) in (
        Z,
        record { few = omega (arith, few, slots_count S.pins); left = subst (λ (q : Pins). q.given < 2 ^ 32 - 1) h.pins adds.left; used = adds.used; is = refl },
        sym also,
        record {
          store = stays h.store;
          views = views_more pinned' known S.pins view pin (views_on known S.pins on h.views)
              (record { number = number ∙ also; tells = subst (λ n. TellsTree (pinned' n) view.counts.last view.known view.searches S.now) (sym number) tells });
          pins = opened ∙ ap (λ l. record { given = S.given + 1; opened = l }) (sym (slots_more S.pins (pin ∷ [])));
          given = also;
          numbered = numbered_more 0 S.given S.pins adds.used S.now h.numbered;
          found = found ∙ h.found;
          shows = h.shows;
        },
      )

  -- what is said of it
  pub pins_made : (view : PinView) (p number : ℕ) (items : List PinView) (said : List ℕ) → ((q : ℕ) (N : Nodes) → pinned q N → pinned' q N) → AddsPin room.pins room'.pins p → number ≡ count + 1 → items ≡ known ++ view ∷ [] → view.number ≡ number
      → TellsTree (pinned' p) view.counts.last view.known view.searches S.now → said ≡ pin_text (Pinned number) → PinsAs (HasSitting has' pinned' room' items number shown front) S said
  pins_made view p number items said on adds next grown named tells is =
      let same : p ≡ count + 1 = adds.number ∙ ap (λ (q : Pins). q.given + 1) h.pins ∙ ap (λ n. n + 1) (sym h.given) in
      let m = sitting_made view p on adds (named ∙ next) (subst (λ n. TellsTree (pinned' n) view.counts.last view.known view.searches S.now) same tells) in
      inl (
        m.0,
        m.1,
        is ∙ ap (λ n. pin_text (Pinned n)) (next ∙ sym m.2),
        subst (λ l. HasSitting has' pinned' room' l number shown front m.0) (sym grown) (subst (λ n. HasSitting has' pinned' room' (known ++ view ∷ []) n shown front m.0) (sym next) m.3),
      )

  -- the same where none was made
  pub sitting_back : (items : List PinView) → items ≡ known → ((q : ℕ) (N : Nodes) → pinned q N → pinned' q N) → room'.pins ≡ room.pins → HasSitting has' pinned' room' items count shown front S
  sitting_back items back on same = subst (λ l. HasSitting has' pinned' room' l count shown front S) (sym back) (sitting_same on same)

  -- ---- one is given up

  pub sitting_without : (n i : ℕ) → ((q : ℕ) (N : Nodes) → (q ≡ n → ⊥) → pinned q N → pinned' q N) → room'.pins ≡ kept_without n room.pins → AreViews pinned (remove known i) (pins_without n S.pins) → HasSitting has' pinned' room' (remove known i) count shown front (record S { pins = pins_without n S.pins })
  sitting_without n i on without are = record {
    store = stays h.store;
    views = views_other n (remove known i) (pins_without n S.pins) (without_other n 0 S.given S.pins h.numbered) on are;
    pins = without ∙ ap (kept_without n) h.pins ∙ ap (λ l. record { given = S.given; opened = l }) (sym (slots_without n S.pins));
    given = h.given;
    numbered = numbered_without n 0 S.given S.pins h.numbered;
    found = found ∙ h.found;
    shows = h.shows;
  }

-- ---- another tree is there now

pub sitting_now : {has has' : Searching → Type 0} {pinned pinned' : ℕ → Nodes → Type 0} {room room' : Room} {known : List PinView} {count : ℕ} {shown shown' : OpenViews} {front : List ℕ} (S : Sitting) (Y : Searching) → HasSitting has pinned room known count shown front S → has' Y
    → ((q : ℕ) (N : Nodes) → pinned q N → pinned' q N) → room'.pins ≡ room.pins → room'.found ≡ room.found → viewing_of shown' ≡ standing Y.tree.places (viewing_of shown) → HasSitting has' pinned' room' known count shown' front (with_tree Y S)
sitting_now {known = known} S Y h has on same found stand = record {
  store = has;
  views = views_on known S.pins on h.views;
  pins = same ∙ h.pins;
  given = h.given;
  numbered = h.numbered;
  found = found ∙ h.found;
  shows = ap (standing Y.tree.places) h.shows ∙ sym stand;
}

-- ---- the views are others

pub sitting_shows : {has has' : Searching → Type 0} {pinned pinned' : ℕ → Nodes → Type 0} {room room' : Room} {known : List PinView} {count : ℕ} {shown shown' : OpenViews} {front : List ℕ} (S : Sitting) → HasSitting has pinned room known count shown front S → (has S.now → has' S.now)
    → ((q : ℕ) (N : Nodes) → pinned q N → pinned' q N) → room'.pins ≡ room.pins → room'.found ≡ room.found → (V : Viewing) → V ≡ viewing_of shown' → HasSitting has' pinned' room' known count shown' front (record S { views = V })
sitting_shows {known = known} S h stays on same found V is = record {
  store = stays h.store;
  views = views_on known S.pins on h.views;
  pins = same ∙ h.pins;
  given = h.given;
  numbered = h.numbered;
  found = found ∙ h.found;
  shows = is;
}

-- ---- the last of what is known is taken back

-- a list without its last
init : {A : Type 0} → List A → List A
init [] = []
init (x ∷ []) = []
init (x ∷ y ∷ xs) = x ∷ init (y ∷ xs)

init_snoc : {A : Type 0} (xs : List A) (x : A) → init (xs ++ x ∷ []) ≡ xs
unfolding init
init_snoc [] x = refl
init_snoc (y ∷ []) x = refl
init_snoc (y ∷ z ∷ xs) x = ap (λ l. y ∷ l) (init_snoc (z ∷ xs) x)

pub taken_back : {A : Type 0} (xs ys : List A) (x : A) (o : Option A) → IsSome o → xs ++ x ∷ [] ≡ ys ++ option_to_list o → ys ≡ xs
taken_back xs ys x None some is = absurd (false≢true some)
taken_back xs ys x (Some y) some is = sym (init_snoc ys y) ∙ ap init (sym is) ∙ init_snoc xs x

-- ---- a pin that a line names

-- as the place that was looked for says
pub place_found : (views items : List PinView) (pin place : Option ℕ) (found : Option ℕ) → place ≡ place_of pin views → views ≡ items → place ≡ found → place_of pin items ≡ found
place_found views items pin place found is same at = sym (ap (place_of pin) same) ∙ (sym is ∙ at)

-- none has that number
pub named_none : (pinned : ℕ → Nodes → Type 0) (S : Sitting) (views : List PinView) (pin : Option ℕ) → AreViews pinned views S.pins → place_of pin views ≡ None → (tree_at pin S ≡ None) × (without_pin pin S ≡ S)
named_none pinned S views None are is = (refl, refl)
named_none pinned S views (Some p) are is = let e = no-place pinned p views S.pins are is in (e.0, ap (λ l. record S { pins = l }) e.1)

-- one has it
pub named_some : (pinned : ℕ → Nodes → Type 0) (S : Sitting) (views : List PinView) (d : PinView) (pin : Option ℕ) (i : ℕ) → AreViews pinned views S.pins → place_of pin views ≡ Some i
    → (p : ℕ) × (pin ≡ Some p) × IsAt pinned p views S.pins i d
named_some pinned S views d None i are is = absurd (none_some is)
  where
    none_some : ◌≡◌ {A = Option ℕ} None (Some i) → ⊥
    none_some e = cc
named_some pinned S views d (Some p) i are is = (p, refl, at-place pinned p views S.pins d i are is)

-- ---- and it was given up

pub gives_up : {has has' : Searching → Type 0} {pinned pinned' : ℕ → Nodes → Type 0} {room room' : Room} {known : List PinView} {count : ℕ} {shown : OpenViews} {front : List ℕ} (S : Sitting) → HasSitting has pinned room known count shown front S → (has S.now → has' S.now) → room'.found ≡ room.found
    → (pin : Option ℕ) (p i : ℕ) (d : PinView) (items : List PinView) (said : List ℕ) → pin ≡ Some p → IsAt pinned p known S.pins i d → items ≡ remove known i
    → ((q : ℕ) (N : Nodes) → (q ≡ p → ⊥) → pinned q N → pinned' q N) → room'.pins ≡ kept_without p room.pins → said ≡ pin_text Unpinned → UnpinsAs (HasSitting has' pinned' room' items count shown front) S pin said
gives_up {has' = has'} {pinned' = pinned'} {room' = room'} {known = known} {count = count} {shown = shown} {front = front} S h stays found pin p i d items said e at shrunk on without is =
    subst (λ (n : Option ℕ). UnpinsAs (HasSitting has' pinned' room' items count shown front) S n said) (sym e)
    (inl (
      is ∙ ap unpinned_text (sym at.1),
      subst (λ l. HasSitting has' pinned' room' l count shown front (record S { pins = pins_without p S.pins })) (sym shrunk) (sitting_without S h stays found p i on without at.4),
    ))

-- the tree of a pin that a line names
pub tree_named : (S : Sitting) (pin : Option ℕ) (p : ℕ) (open_pin : OpenPin) → pin ≡ Some p → tree_of p S.pins ≡ Some open_pin.tree → tree_at pin S ≡ Some open_pin.tree
tree_named S pin p open_pin e is = ap (λ n. tree_at n S) e ∙ is
