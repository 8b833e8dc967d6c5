use Rattle.std.specs.Global.{Vec}
use Rattle.mapi_values.specs.Values.{Val}
use Rattle.restr_codec.proofs.ReadLaws.{given}
use Rattle.restr_codec.proofs.SeveralLaws.{one_more_value, stops_at_value}
use Rattle.restr_codec.proofs.values.read_tagged_values.Goals as goal

pub returns-in_err-value : goal.returns-in_err-value
returns-in_err-value c =
    given _ _ c.in_err-value.field-0.0 _ c.from_residual.ensures.1
    (stops_at_value {C = Vec Val} (λ v. v) (λ vs. vs.items) c.args.count c.args.bytes.now _ _ _ c.in_err-value.field-0.0 c.loop-turn-test.true c.loop-turn.invariant c.in_err-value.ensures.read)

pub loop-turn-preserved : goal.loop-turn-preserved
loop-turn-preserved c =
    one_more_value c.args.count c.args.bytes.now _ _ _ _ _ c.in_ok-value.value c.loop-turn-test.true c.loop-turn.invariant c.in_ok-value.ensures.read c.in_ok-push.ensures.items
