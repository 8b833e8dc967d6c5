use Rattle.std.proofs.Common.{◌∙◌, ◌++◌, ◌∷◌, [], Bool, List, Some, sym, ap, subst, refl}
use Rattle.pst_commit.specs.declared.store.Pin.{Pin}
use Rattle.file_planner.specs.Holding.{IsHolding}
use Rattle.file_planner.proofs.HoldingLaws.{hold-one, is-some, some-now, no-none}
use Rattle.file_planner.proofs.held.Held.hold.Goals as goal

pub returns-then-is_some-clause-holding : goal.returns-then-is_some-clause-holding
returns-then-is_some-clause-holding c = λ is.
    let own = c.args.own.now in
    let pins = c.args.self.now.pins.items in
    let all = c.args.self.now.all in
    let now = c.in_ok-push.ensures.items ∙ ap (λ (s : List Bool). pins ++ (c.args.pin, s) ∷ []) c.in_ok-slots.ensures in
    subst (λ (ps : List (Pin × List Bool)). IsHolding own ps all) (sym now) (hold-one own pins all all c.args.pin (is-some all (sym c.is_some.ensures ∙ c.if-is_some.true)) refl is)

pub returns-clause-holding : goal.returns-clause-holding
returns-clause-holding c = λ is.
    let own = c.args.own.now in
    let pins = c.args.self.now.pins.items in
    let all = c.args.self.now.all in
    let now = c.in_ok-push-2.ensures.items ∙ ap (λ (s : List Bool). pins ++ (c.args.pin, s) ∷ []) c.in_ok-slots.ensures in
    subst (λ (ps : List (Pin × List Bool)). IsHolding own ps (Some c.in_ok-all.all)) (sym now)
    (hold-one own pins all (Some c.in_ok-all.all) c.args.pin (no-none c.in_ok-all.all) (c.in_ok-all.ensures ∙ sym (some-now own all (sym c.is_some.ensures ∙ c.if-is_some.false))) is)
