use Rattle.std.proofs.Common.{ℕ, arith}
use Rattle.std.specs.Global.{Vec}
use Rattle.restr_codec.specs.Forms.{restrs}
use Rattle.restr_codec.specs.Restr.{Restr}
use Rattle.restr_codec.specs.Reading.{part, started}
use Rattle.restr_codec.proofs.ReadLaws.{deeper, given, goes, no_deeper, stops}
use Rattle.restr_codec.proofs.SeveralLaws.{all_so_far, one_more, stops_at}
use Rattle.restr_codec.proofs.reading.+read.Goals as goal

pub read_restriction-returns-then-room-eq0 : goal.read_restriction-returns-then-room-eq0
read_restriction-returns-then-room-eq0 t c =
    rw c.refuse.ensures (no_deeper c.args.room.deep c.args.room.inner c.args.room.left c.args.bytes.now c.if-room-eq0.true)

pub read_restriction-returns-in_err-code : goal.read_restriction-returns-in_err-code
read_restriction-returns-in_err-code t c =
    rw (deeper c.args.room.deep c.args.room.inner c.args.room.left c.args.bytes.now c.if-room-eq0.false)
    (given _ _ c.in_err-code.field-0.0 _ c.from_residual.ensures.1 (stops (λ n. n) (λ p. p) (started c.args.room.inner c.args.room.left c.args.bytes.now) _ c.in_err-code.field-0.0 c.in_err-code.ensures))

pub read_restriction-returns : goal.read_restriction-returns
read_restriction-returns t c =
    rw (deeper c.args.room.deep c.args.room.inner c.args.room.left c.args.bytes.now c.if-room-eq0.false)
    (goes (λ n. n) (λ p. p) (started c.args.room.inner c.args.room.left c.args.bytes.now) _ c.in_ok-code.code c.in_ok-code.bytes _ c.in_ok-code.ensures c.read_by_code.ensures)

pub read_several-returns-in_err-one : goal.read_several-returns-in_err-one
read_several-returns-in_err-one t c =
    given _ _ c.in_err-one.field-0.0 _ c.from_residual.ensures.1
    (stops_at {C = Vec Restr × ℕ} (λ p. p) (λ p. (restrs p.0.items, p.1)) (part c.args.room.deep c.args.room.inner) c.args.count c.args.room.left c.args.bytes.now _ _ _ _ c.in_err-one.field-0.0 c.loop-turn-test.true c.loop-turn.invariant c.in_err-one.ensures)

pub read_several-loop-turn-preserved : goal.read_several-loop-turn-preserved
read_several-loop-turn-preserved t c =
    one_more (part c.args.room.deep c.args.room.inner) c.args.count c.args.room.left c.args.bytes.now _ _ _ _ _ _ _ c.in_ok-one.one c.loop-turn-test.true c.loop-turn.invariant c.in_ok-one.ensures c.in_ok-push.ensures.items

pub read_several-returns : goal.read_several-returns
read_several-returns t c =
    all_so_far (part c.args.room.deep c.args.room.inner) c.args.count c.args.room.left c.args.bytes.now c.loop-turn._turn c.loop-turn.inner.items c.loop-turn.left c.loop-turn.rest.now (omega arith) c.loop-turn.invariant
