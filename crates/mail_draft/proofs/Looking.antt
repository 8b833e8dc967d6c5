-- Calls that only look, one after another.
use Rattle.std.proofs.Common.{ℕ, Bool, List, refl, sym, ◌∙◌, inl, inr, ⊎_elim, arith}
use Rattle.node_port.specs.Nodes.{Nodes}
use Rattle.node_port.specs.Stops.{Room}
use Rattle.pst_outside.specs.World.{World}
use Rattle.pst_outside.specs.Calls.{Untouched}
use Rattle.mail_tree.specs.Tree.{Shown, Tree}
use Rattle.mail_draft.specs.declared.stop.Stop.{Stop}
use Rattle.mail_draft.specs.declared.stop.Stop.TheVariants.{Refused, Fault, Changed, Memory}
use Rattle.mail_draft.specs.Answers.{IsCaused, Looks}

-- the world is as it was
pub untouched_same : (v : World) → Untouched v v
untouched_same v = record {
  counts = record { in_faults = omega arith; out_faults = omega arith; disk_faults = omega arith };
  stays = record { written = refl; told = λ t. t; here = λ t. refl; input = λ t. refl };
  keeps_told = λ t. t;
  crash = λ c l. l;
  time = record { later = omega arith; nothing_else = λ t c le l. inl l; keeps = λ t c le l. l };
}

-- two calls that change nothing
pub untouched_then : {a b c : World} → Untouched a b → Untouched b c → Untouched a c
untouched_then {a} {b} {c} first then = record {
  counts = record {
    in_faults = omega (arith, first.counts.in_faults, then.counts.in_faults);
    out_faults = omega (arith, first.counts.out_faults, then.counts.out_faults);
    disk_faults = omega (arith, first.counts.disk_faults, then.counts.disk_faults);
  };
  stays = record {
    written = then.stays.written ∙ first.stays.written;
    told = λ told. first.stays.told (then.stays.told told);
    here = λ told. then.stays.here told ∙ first.stays.here (then.stays.told told);
    input = λ told. then.stays.input told ∙ first.stays.input (then.stays.told told);
  };
  keeps_told = λ told. then.keeps_told (first.keeps_told told);
  crash = λ i left. first.crash i (then.crash i left);
  time = record {
    later = omega (arith, first.time.later, then.time.later);
    nothing_else = λ t i le left.
        ⊎_elim
        (λ before. ⊎_elim inl (λ now. inl (a.counts_now t i le (first.crash i now))) (first.time.nothing_else t i le before))
        inr
        (then.time.nothing_else t i (omega (arith, le, first.time.later)) left);
    keeps = λ t i le left. then.time.keeps t i (omega (arith, le, first.time.later)) (first.time.keeps t i le left);
  };
}

-- no call
pub looks_same : (holds : Nodes → Type 0) (last : List ℕ) (room : Room) (v : World) → Looks holds holds last last room room v v
looks_same holds last room v = record { stays = λ N h. h; counters = refl; space = refl; world = untouched_same v }

-- two calls
pub looks_then : {holds holds' holds'' : Nodes → Type 0} {last last' last'' : List ℕ} {room room' room'' : Room} {u v w : World}
    → Looks holds holds' last last' room room' u v → Looks holds' holds'' last' last'' room' room'' v w → Looks holds holds'' last last'' room room'' u w
looks_then first then = record {
  stays = λ N h. then.stays N (first.stays N h);
  counters = then.counters ∙ first.counters;
  space = then.space ∙ first.space;
  world = untouched_then first.world then.world;
}

-- a tree that was shown is shown still
pub shown_still : {holds holds' : Nodes → Type 0} {last last' : List ℕ} {room room' : Room} {v w : World} (T : Tree)
    → Looks holds holds' last last' room room' v w → Shown holds last T → Shown holds' last' T
shown_still T looks s = record { nodes = s.nodes; held = looks.stays s.nodes s.held; at = s.at; counters = s.counters ∙ sym looks.counters }

-- a stop of a later call
pub caused_later : {u v : World} (disk : Bool) (after : ℕ) (stop : Stop) → Untouched u v → IsCaused disk v.disk_faults after stop → IsCaused disk u.disk_faults after stop
caused_later disk after (Refused refusal) same cause = tt
caused_later {u} {v} disk after Fault same cause = (omega (arith, same.counts.disk_faults, cause.0), cause.1)
caused_later disk after (Changed ib stored computed) same cause = tt
caused_later disk after Memory same cause = tt
