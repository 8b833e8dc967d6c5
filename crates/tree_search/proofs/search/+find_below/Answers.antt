use Rattle.std.proofs.Common.{true, false, ◌≡◌, ◌-◌, List, Option, None, Some, sym, ap, subst, ◌∙◌, arith, refl}
use Rattle.std.specs.Option.{is_some}
use Rattle.std.proofs.lemmas.Result.{err_from_is_err_and}
use Rattle.pst_base.specs.declared.ids.Bref.{Bref}
use Rattle.tree_edit.specs.Pages.{shapes}
use Rattle.tree_search.specs.Search.{IsTop}
use Rattle.tree_search.proofs.SearchLaws.{top-leaf, onward-start, onward-part, onward-next, onward-found, onward-end, below-stops}
use Rattle.tree_search.proofs.search.+find_below.Goals as goal

none-of : {A : Type 0} (o : Option A) → is_some o ≡ false → o ≡ None
none-of None e = refl
none-of (Some x) e = absurd (cc)

not-some : {A : Type 0} (o : Option A) → o ≡ None → is_some o ≡ true → ⊥
not-some None none e = cc
not-some (Some x) none e = cc

pub returns-then-level-eq0-clause-found : goal.returns-then-level-eq0-clause-found
returns-then-level-eq0-clause-found g t c = λ find told es t.
    c.leaf_from.ensures ∙ top-leaf g.E.Entry.rule g.E.Entry.size g.E.Entry.entry_of g.E.Entry.key g.met.E.Entry.key_read find c.args.at c.in_ok-body.body (c.in_ok-body.ensures.found find told) c.args.most es t
    c.in-Ok.page (sym c.read.ensures ∙ c.in-Ok.is) c.args.low c.start_of-start.result (sym c.level.ensures.value ∙ c.if-level-eq0.true) c.start_of-start.ensures

pub loop-i-init : goal.loop-i-init
loop-i-init g t c = onward-start g.E.Entry.rule g.E.Entry.size g.E.Entry.entry_of g.E.Entry.key g.met.E.Entry.key_read (g.S.PageSource.view c.args.s.now) (g.S.PageSource.view c.page.new.self) c.args.most c.args.at c.args.low c.in-Ok.page
    c.start_of-start.result c.in_ok-body.body c.page.ensures.later (λ find told. c.in_ok-body.ensures.found find told) (sym c.read.ensures ∙ c.in-Ok.is) (λ z. let v = c.level.ensures.value in c.if-level-eq0.false (v ∙ z)) c.start_of-start.ensures

pub returns-in_err-found-clause-stops : goal.returns-in_err-found-clause-stops
returns-in_err-found-clause-stops g t c =
    let p = err_from_is_err_and c.from_residual-in_err-found.result c.from_residual-in_err-found.ensures.1 in
    rw (p.1, p.2) (below-stops (g.S.PageSource.view c.args.s.now) (g.S.PageSource.view c.loop-i.s) (g.S.PageSource.view c.find_below.new.s) (λ find. (es : List g.row.E.Denot) × IsTop (shapes g.E.Entry.rule g.E.Entry.size g.E.Entry.entry_of find) g.E.Entry.key c.args.most c.args.at es)
    (λ find. (es : List g.row.E.Denot) × IsTop (shapes g.E.Entry.rule g.E.Entry.size g.E.Entry.entry_of find) g.E.Entry.key (c.args.most - 1) c.inner.result.page es) c.loop-i.invariant.later
    (λ find told is. let part = onward-part g.E.Entry.rule g.E.Entry.size g.E.Entry.entry_of g.E.Entry.key g.met.E.Entry.key_read (g.S.PageSource.view c.args.s.now) (g.S.PageSource.view c.loop-i.s) c.args.most c.args.at c.args.low c.in-Ok.page c.loop-i.i c.loop-i.invariant (let test = c.loop-i-test.true in let count = c.count-i-end.ensures in omega (arith, test, count)) find told is.0 is.1 in
    (part.0, subst (λ (at : Bref). IsTop (shapes g.E.Entry.rule g.E.Entry.size g.E.Entry.entry_of find) g.E.Entry.key (c.args.most - 1) at part.0) (sym (ap (λ e. e.page) c.inner.ensures)) part.1))
    c.in_err-found.field-0.0 c.in_err-found.ensures.stops)

pub returns-then-is_some-clause-found : goal.returns-then-is_some-clause-found
returns-then-is_some-clause-found g t c =
    let test = c.loop-i-test.true in
    let count = c.count-i-end.ensures in
    onward-found g.E.Entry.rule g.E.Entry.size g.E.Entry.entry_of g.E.Entry.key g.met.E.Entry.key_read (g.S.PageSource.view c.args.s.now) (g.S.PageSource.view c.loop-i.s) c.args.most c.args.at c.args.low c.in-Ok.page c.loop-i.i c.in_ok-found.found c.loop-i.invariant (omega (arith, test, count))
    (λ find told part top. c.in_ok-found.ensures.found find told part (subst (λ (at : Bref). IsTop (shapes g.E.Entry.rule g.E.Entry.size g.E.Entry.entry_of find) g.E.Entry.key (c.args.most - 1) at part) (sym (ap (λ e. e.page) c.inner.ensures)) top))
    (λ none. not-some c.in_ok-found.found none (sym c.is_some.ensures ∙ c.if-is_some.true))

pub loop-i-preserved : goal.loop-i-preserved
loop-i-preserved g t c =
    let test = c.loop-i-test.true in
    let count = c.count-i-end.ensures in
    onward-next g.E.Entry.rule g.E.Entry.size g.E.Entry.entry_of g.E.Entry.key g.met.E.Entry.key_read (g.S.PageSource.view c.args.s.now) (g.S.PageSource.view c.loop-i.s) c.args.most c.args.at c.args.low c.in-Ok.page c.loop-i.i (g.S.PageSource.view c.find_below.new.s) c.in_ok-found.found c.loop-i.invariant (omega (arith, test, count)) c.find_below.ensures.later
    (λ find told part top. c.in_ok-found.ensures.found find told part (subst (λ (at : Bref). IsTop (shapes g.E.Entry.rule g.E.Entry.size g.E.Entry.entry_of find) g.E.Entry.key (c.args.most - 1) at part) (sym (ap (λ e. e.page) c.inner.ensures)) top))
    (none-of c.in_ok-found.found (sym c.is_some.ensures ∙ c.if-is_some.false))

pub returns-clause-found : goal.returns-clause-found
returns-clause-found g t c =
    let test = c.loop-i-test.false in
    let count = c.count-i-end.ensures in
    onward-end g.E.Entry.rule g.E.Entry.size g.E.Entry.entry_of g.E.Entry.key g.met.E.Entry.key_read (g.S.PageSource.view c.args.s.now) (g.S.PageSource.view c.loop-i.s) c.args.most c.args.at c.args.low c.in-Ok.page c.loop-i.i c.loop-i.invariant (omega (arith, test, count))
