use Rattle.std.proofs.Common.{◌≡◌, ◌-◌, ◌<◌, ℕ, suc, List, [], ◌∷◌, sym, ap, subst, ◌∙◌, arith, Option}
use Rattle.std.proofs.lemmas.List.{length-map}
use Rattle.pst_base.specs.declared.ids.Bref.{Bref}
use Rattle.btree_pages.specs.Pages.{key_in}
use Rattle.tree_edit.specs.Edits.{entry_with}
use Rattle.tree_edit.specs.Pages.{shapes}
use Rattle.tree_edit.specs.Source.{TellsWhole}
use Rattle.tree_edit.proofs.StopLaws.{stops-source, stops-then, stops-handed, stops-here, any-page}
use Rattle.tree_edit.proofs.LookLaws.{Down, Down}
use Rattle.tree_edit.proofs.LoopLaws.{later-then}
use Rattle.tree_edit.specs.Source.{TellsWhole}
use Rattle.tree_edit.proofs.StopLaws.{stops-source, stops-then, stops-handed, stops-here, any-page}
use Rattle.tree_edit.proofs.LookLaws.{Down, looking-start, down-next, down-leaf, down-none}
use Rattle.tree_edit.proofs.look.look_up.Goals as goal

pub down-init : goal.down-init
down-init g c = looking-start g.E.Entry.rule g.E.Entry.size g.E.Entry.entry_of g.E.Entry.key (g.S.PageSource.view c.args.s.now) c.args.root c.args.key

pub returns-in_default-find-clause-found : goal.returns-in_default-find-clause-found
returns-in_default-find-clause-found g c = λ find told es ps whole.
    let d = (c.down.invariant.so_far find told es ps whole).0 in
    let here = c.in_ok-body.ensures.found find (c.down.invariant.later.told find told) in
    let reads = c.in-Some.ensures.page in
    down-none g.E.Entry.rule g.E.Entry.size g.E.Entry.entry_of g.E.Entry.key g.met.E.Entry.key_read find c.down.at c.in_ok-body.body c.in-Some.page here reads c.args.key es d c.in_default-find.ensures

pub returns-then-limit-eq0-clause-found : goal.returns-then-limit-eq0-clause-found
returns-then-limit-eq0-clause-found g c = λ find told es ps whole.
    let d = (c.down.invariant.so_far find told es ps whole).0 in
    let here = c.in_ok-body.ensures.found find (c.down.invariant.later.told find told) in
    let reads = c.in-Some.ensures.page in
    let len = length-map c.in-Some.page.entries (key_in g.E.Entry.rule) in
    let last = c.in-Some-find.ensures in
    let within = last.within in
    let value = c.level-limit.ensures.value in
    c.with_key.ensures ∙ ap (λ e. entry_with g.E.Entry.key c.args.key (e ∷ [])) c.leaf.ensures
    ∙ down-leaf g.E.Entry.rule g.E.Entry.size g.E.Entry.entry_of g.E.Entry.key g.met.E.Entry.key_read find c.down.at c.in_ok-body.body c.in-Some.page here reads c.args.key es d c.in-Some-find.i (sym value ∙ c.if-limit-eq0.true) (omega (arith, len, within)) last

pub down-preserved : goal.down-preserved
down-preserved g c = record {
  later = later-then c.down.invariant.later c.page.ensures.later;
  so_far = λ find told es ps whole.
      let d = (c.down.invariant.so_far find told es ps whole).0 in
      let here = c.in_ok-body.ensures.found find (c.down.invariant.later.told find told) in
      let reads = c.in-Some.ensures.page in
      let len = length-map c.in-Some.page.entries (key_in g.E.Entry.rule) in
      let last = c.in-Some-find.ensures in
      let within = last.within in
      let value = c.level-limit.ensures.value in
      let test = c.if-limit-eq0.false in
      let level : c.in-Some.page.level ≡ suc (c.in-Some.page.level - 1) = omega (arith, value, test) in
      let next = down-next g.E.Entry.rule g.E.Entry.size g.E.Entry.entry_of g.E.Entry.key g.met.E.Entry.key_read find c.down.at c.in_ok-body.body c.in-Some.page here reads c.args.key es d (c.in-Some.page.level - 1) c.in-Some-find.i level (omega (arith, len, within)) last in
      let less = next.1 in
      subst (λ (at : Bref). (d : Down (shapes g.E.Entry.rule g.E.Entry.size g.E.Entry.entry_of find) g.E.Entry.key c.args.key at es) × (d.n < c.level-limit.result)) (sym (ap (λ e. e.page) c.inner.ensures)) (next.0, omega (arith, less, value, level));
}

-- ---- stops

pub returns-in_err-body-clause-stopped : goal.returns-in_err-body-clause-stopped
returns-in_err-body-clause-stopped g c =
    let Tells : (Bref → Option (List ℕ)) → Type 0 = TellsWhole g.E.Entry.rule g.E.Entry.size g.E.Entry.entry_of g.E.Entry.key c.args.root in
    stops-handed Tells (g.S.PageSource.view c.args.s.now) (g.S.PageSource.view c.page.new.self) c.in_err-body.field-0.0 c.from_residual.result c.from_residual.ensures.1
    (stops-then Tells Tells (g.S.PageSource.view c.args.s.now) (g.S.PageSource.view c.down.s) (g.S.PageSource.view c.page.new.self) c.in_err-body.field-0.0 c.down.invariant.later (λ find told tells. tells)
    (stops-source Tells (g.S.PageSource.view c.down.s) (g.S.PageSource.view c.page.new.self) c.in_err-body.field-0.0 c.in_err-body.ensures.stopped))

pub returns-in_default-clause-stopped : goal.returns-in_default-clause-stopped
returns-in_default-clause-stopped g c =
    let Tells : (Bref → Option (List ℕ)) → Type 0 = TellsWhole g.E.Entry.rule g.E.Entry.size g.E.Entry.entry_of g.E.Entry.key c.args.root in
    stops-here Tells (g.S.PageSource.view c.args.s.now) (g.S.PageSource.view c.page.new.self) c.changed.result c.down.at c.in_ok-body.body c.changed.ensures (λ find told. c.in_ok-body.ensures.found find (c.down.invariant.later.told find told))
    (λ find told found tells.
    let d = c.down.invariant.so_far find told tells.0 tells.1 tells.2 in
    let e = d.0 in
    let less = d.1 in
    let top = any-page g.E.Entry.rule g.E.Entry.size g.E.Entry.entry_of g.E.Entry.key g.met.E.Entry.key_read find c.down.at c.in_ok-body.body found e.n e.least e.low e.high e.here e.pages e.tree in
    let level = top.level in
    c.in_default.ensures.none top.page top.reads (omega (arith, level, less)))
