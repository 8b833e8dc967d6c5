use Rattle.std.proofs.Common.{rules, ◌≡◌, ◌^◌, ℕ, List, sym, ap, subst, ◌∙◌}
use Rattle.std.specs.List.{filter}
use Rattle.std.proofs.lemmas.Fn.{filter_same}
use Rattle.ref_counts.specs.Tables.{first, refs_in, IsAscending}
use Rattle.ref_counts.proofs.SeatLaws.{in_use, rises-used, refs-used}
use Rattle.ref_counts.proofs.entries.drop_unused.Goals as goal

pub returns-clause-ascend : goal.returns-clause-ascend
returns-clause-ascend c =
    let is : c.retain.new.self.items ≡ filter in_use c.args.entries.now.items = filter_same _ in_use _ (λ x r f' k. search rules) _ _ c.retain.ensures.filtered in
    subst (λ (xs : List (ℕ × ℕ)). IsAscending first xs) (sym is) (rises-used 0 (2 ^ 64) c.args.entries.now.items c.requires)

pub returns-clause-same : goal.returns-clause-same
returns-clause-same c = λ key.
    let is : c.retain.new.self.items ≡ filter in_use c.args.entries.now.items = filter_same _ in_use _ (λ x r f' k. search rules) _ _ c.retain.ensures.filtered in
    ap (λ (xs : List (ℕ × ℕ)). refs_in xs key) is ∙ refs-used 0 (2 ^ 64) key c.args.entries.now.items c.requires
