-- What a planner answers, as a keeper of its file gives it.
use Rattle.std.proofs.Common.{Bool, true, false, ◌≡◌, ◌∙◌, ℕ, ◌+◌, ◌*◌, ◌/◌, ◌^◌, ◌<◌, ◌≤◌, leb, min, List, Option, Result, Ok, Err, IfErr, refl, sym, ap, subst, arith, inl, inr, ◌||◌}
use Rattle.std.proofs.lemmas.Bool.{cases_lt, le-leb}
use Rattle.pst_base.specs.declared.ids.Nid.{Nid}
use Rattle.pst_outside.specs.World.{World}
use Rattle.node_port.specs.declared.keeper.KeepStop.{KeepStop}
use Rattle.node_port.specs.declared.keeper.KeepStop.TheVariants as keep
use Rattle.node_port.specs.declared.keeper.PrepareStop.{PrepareStop}
use Rattle.node_port.specs.declared.keeper.PrepareStop.TheVariants as prepare
use Rattle.node_port.specs.declared.node.NodeRec.{NodeRec}
use Rattle.node_port.specs.Nodes as port
use Rattle.node_port.specs.Pins.{no_pins}
use Rattle.node_port.specs.Stops.{KeepStops, PrepareStops, Room, RoomDecides, need, size}
use Rattle.node_store.specs.Told.{StopsKeeping}
use Rattle.file_planner.specs.Knowing.{spent}
use Rattle.file_planner.specs.Stopping.{prepare_stop}

-- ---- stops

pub keep-to : (old new : World) (Whole : Type 0) (held : port.Nodes → Type 0) → ((N : port.Nodes) → held N → Whole) → (stop : KeepStop) → StopsKeeping old new Whole stop → KeepStops true old.disk_faults new.disk_faults held stop
keep-to old new Whole held whole keep.Fault stops = (stops, refl)
keep-to old new Whole held whole (keep.Changed ib stored computed) stops = λ N is. stops (whole N is)
keep-to old new Whole held whole keep.Memory stops = tt

-- the same of a whole answer
pub keeps-to : {X : Type 0} (old new : World) (Whole : Type 0) (held : port.Nodes → Type 0) → ((N : port.Nodes) → held N → Whole) → (r : Result X KeepStop) → IfErr r (StopsKeeping old new Whole) → IfErr r (KeepStops true old.disk_faults new.disk_faults held)
keeps-to old new Whole held whole (Ok x) stops = tt
keeps-to old new Whole held whole (Err stop) stops = keep-to old new Whole held whole stop stops

pub prepare-to : (old new : World) (Whole : Type 0) (held : port.Nodes → Type 0) → ((N : port.Nodes) → held N → Whole) → (stop : KeepStop) → StopsKeeping old new Whole stop → PrepareStops true old.disk_faults new.disk_faults held (prepare_stop stop)
prepare-to old new Whole held whole keep.Fault stops = (stops, refl)
prepare-to old new Whole held whole (keep.Changed ib stored computed) stops = λ N is. stops (whole N is)
prepare-to old new Whole held whole keep.Memory stops = tt

-- what was decided is decided of any answer
pub decides-on : (R S : Type 0) (has : Room) (room : ℕ) (cs : List (Nid × Option NodeRec)) (stop : PrepareStop) → RoomDecides {R = R} has room cs (Err stop) → RoomDecides {R = S} has room cs (Err stop)
decides-on R S has room cs prepare.Fault is = tt
decides-on R S has room cs (prepare.Changed ib stored computed) is = tt
decides-on R S has room cs prepare.Memory is = tt
decides-on R S has room cs (prepare.Full free needed) is = is
decides-on R S has room cs prepare.IdsSpent is = is

-- the same room decides the same
pub decides-same : (R : Type 0) (free free' pages room : ℕ) (spent spent' : Bool) (found : List ℕ) (cs cs' : List (Nid × Option NodeRec)) (r : Result R PrepareStop) → free ≡ free' → spent ≡ spent' → cs ≡ cs'
    → RoomDecides {R = R} (record { free = free; pages = pages; spent = spent; found = found; pins = no_pins }) room cs r → RoomDecides {R = R} (record { free = free'; pages = pages; spent = spent'; found = found; pins = no_pins }) room cs' r
decides-same R free free' pages room spent spent' found cs cs' r frees spents same is =
    let one : RoomDecides {R = R} (record { free = free'; pages = pages; spent = spent; found = found; pins = no_pins }) room cs r = subst (λ (n : ℕ). RoomDecides {R = R} (record { free = n; pages = pages; spent = spent; found = found; pins = no_pins }) room cs r) frees is in
    let two : RoomDecides {R = R} (record { free = free'; pages = pages; spent = spent'; found = found; pins = no_pins }) room cs r = subst (λ (b : Bool). RoomDecides {R = R} (record { free = free'; pages = pages; spent = b; found = found; pins = no_pins }) room cs r) spents one in
    subst (λ (l : List (Nid × Option NodeRec)). RoomDecides {R = R} (record { free = free'; pages = pages; spent = spent'; found = found; pins = no_pins }) room l r) same two

-- ---- numbers

spent-none : (block page : ℕ) → spent block page ≡ false → (block < 2 ^ 61) × (page < 2 ^ 61)
spent-none block page none = elim (cases_lt block (2 ^ 61)) [
  | inl low ↦ elim (cases_lt page (2 ^ 61)) [
    | inl page_low ↦ (low, page_low)
    | inr high ↦ absurd (clash (leb (2 ^ 61) block) (ap (λ (b : Bool). leb (2 ^ 61) block || b) (sym (le-leb (2 ^ 61) page high)) ∙ none))
  ]
  | inr high ↦ absurd (front (ap (λ (b : Bool). b || leb (2 ^ 61) page) (sym (le-leb (2 ^ 61) block high)) ∙ none))
]
  where
    clash : (b : Bool) → (b || true) ≡ false → ⊥
    clash true h = cc
    clash false h = cc

    front : ◌≡◌ {A = Bool} true false → ⊥
    front h = cc

-- where there is room, the next numbers aren't used up, and the cells suffice
pub room-enough : (free pages block page room : ℕ) (found : List ℕ) (cs : List (Nid × Option NodeRec)) → (spent block page ≡ false) × (need pages room cs ≤ free) → (block < 2 ^ 61) × (page < 2 ^ 61) × (pages / 16 + 3 * min (size cs) (2 ^ 60) + 16 ≤ free)
room-enough free pages block page room found cs decided =
    let low = spent-none block page decided.0 in
    let enough = decided.1 in
    (low.0, low.1, omega (arith, enough))
