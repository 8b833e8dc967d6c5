-- How a world goes on from call to call.
use Rattle.std.proofs.Common.{◌∙◌, inl, inr, refl, arith}
use Rattle.pst_outside.specs.World.{World}
use Rattle.pst_outside.specs.Calls.{NeverFall}
use Rattle.line_server.specs.Worlds.{Listens, Quiet}

pub falls_along : {a b c : World} → NeverFall a b → NeverFall b c → NeverFall a c
falls_along p q = record { in_faults = omega arith; out_faults = omega arith; disk_faults = omega arith }

pub falls_started : (world : World) → NeverFall world world
falls_started world = record { in_faults = omega arith; out_faults = omega arith; disk_faults = omega arith }

-- before the first call
pub listens_started : (world : World) → Listens world world
listens_started world = record {
  counts = falls_started world;
  stays = record { written = refl; told = λ t. t; here = λ t. refl };
  keeps_told = λ t. t;
  crash = λ c left. left;
  time = record { later = omega arith; nothing_else = λ t c le left. inl left; keeps = λ t c le left. left };
}

-- two calls that take input
pub listens_along : {old mid new : World} → Listens old mid → Listens mid new → Listens old new
listens_along {old} p q = record {
  counts = falls_along p.counts q.counts;
  stays = record {
    written = q.stays.written ∙ p.stays.written;
    told = λ t. p.stays.told (q.stays.told t);
    here = λ t. q.stays.here t ∙ p.stays.here (q.stays.told t);
  };
  keeps_told = λ t. q.keeps_told (p.keeps_told t);
  crash = λ c left. p.crash c (q.crash c left);
  time = record {
    later = omega arith;
    nothing_else = λ t c le left.
        elim (q.time.nothing_else t c (omega arith) left) [
          | inl before ↦ elim (p.time.nothing_else t c le before) [ inl first ↦ inl first | inr then_ ↦ inl (old.counts_now t c le (p.crash c then_)) ]
          | inr now ↦ inr now
        ];
    keeps = λ t c le left. q.time.keeps t c (omega arith) (p.time.keeps t c le left);
  };
}

-- where nothing is asked of it
pub quiet_started : (world : World) → Quiet world world
quiet_started world = record { counts = falls_started world; told = λ t. t; input = λ t. refl }
