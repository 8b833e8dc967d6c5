use Rattle.std.proofs.Common.{◌≡◌, ◌∙◌, ◌++◌, ℕ, List, Some, map, sym, ap}
use Rattle.std.proofs.lemmas.Result.{err_from_is_err_and}
use Rattle.heap_on_node.specs.Heap.{item}
use Rattle.bth_tree.specs.declared.record.Record.{Record}
use Rattle.bth_tree.specs.Answers.{seen}
use Rattle.bth_tree.specs.Tree.{bth, under}
use Rattle.bth_tree.proofs.ReadLaws.{stops-along}
use Rattle.bth_tree.proofs.WholeLaws.{bth-at, bth-none, bth-other}
use Rattle.bth_tree.proofs.read.read_all.Goals as goal

pub returns-in_default-clause-exact : goal.returns-in_default-clause-exact
returns-in_default-clause-exact c = bth-none (item c.args.h.now) c.args.hid c.args.key_len c.args.ent_len (sym c.in_default.ensures)

pub returns-then-not-has_header-clause-exact : goal.returns-then-not-has_header-clause-exact
returns-then-not-has_header-clause-exact c =
    bth-other (item c.args.h.now) c.args.hid c.args.key_len c.args.ent_len c.in-Some.x.now (sym c.in-Some.ensures) (sym c.has_header.ensures ∙ c.if-not-has_header.true)

pub returns-in_err-read_under-clause-exact : goal.returns-in_err-read_under-clause-exact
returns-in_err-read_under-clause-exact c =
    let p = err_from_is_err_and c.from_residual.result c.from_residual.ensures.1 in
    let same : under (item c.args.h.now) c.args.key_len c.args.ent_len c.in-Some.x.now ≡ under (item c.args.h.now) c.from.result c.from-2.result c.in-Some.x.now =
    ap (λ (k : ℕ). under (item c.args.h.now) k c.args.ent_len c.in-Some.x.now) (sym c.from.ensures) ∙ ap (λ (e : ℕ). under (item c.args.h.now) c.from.result e c.in-Some.x.now) (sym c.from-2.ensures) in
    rw (p.1, p.2) (stops-along c.in_err-read_under.field-0.0 (under (item c.args.h.now) c.from.result c.from-2.result c.in-Some.x.now) (bth (item c.args.h.now) c.args.hid c.args.key_len c.args.ent_len)
    (λ none. bth-at (item c.args.h.now) c.args.hid c.args.key_len c.args.ent_len c.in-Some.x.now (sym c.in-Some.ensures) (sym c.has_header.ensures ∙ c.if-not-has_header.false) ∙ same ∙ none)
    c.in_err-read_under.ensures.put)

pub returns-clause-exact : goal.returns-clause-exact
returns-clause-exact c =
    let same : under (item c.args.h.now) c.args.key_len c.args.ent_len c.in-Some.x.now ≡ under (item c.args.h.now) c.from.result c.from-2.result c.in-Some.x.now =
    ap (λ (k : ℕ). under (item c.args.h.now) k c.args.ent_len c.in-Some.x.now) (sym c.from.ensures) ∙ ap (λ (e : ℕ). under (item c.args.h.now) c.from.result e c.in-Some.x.now) (sym c.from-2.ensures) in
    bth-at (item c.args.h.now) c.args.hid c.args.key_len c.args.ent_len c.in-Some.x.now (sym c.in-Some.ensures) (sym c.has_header.ensures ∙ c.if-not-has_header.false)
    ∙ same ∙ c.in_ok-read_under.ensures.put.1
    ∙ ap Some (sym (c.in_ok-read_under.ensures.put.2 ∙ ap (λ (rs : List Record). map seen rs ++ c.in_ok-read_under.ensures.put.0) c.new-out.ensures.items))
