use Rattle.std.proofs.Common.{List, ℕ, rules, subst}
use Rattle.copy_part.proofs.Keeping.{keeps_along}
use Rattle.copy_pieces.proofs.AddLaws.{adds-same, adds-write}
use Rattle.compactor.specs.Written.{AddsBytes}
use Rattle.compactor.proofs.writing.put_header.Goals as goal

pub returns-in_err-put-clause-keeps : goal.returns-in_err-put-clause-keeps
returns-in_err-put-clause-keeps g c = keeps_along c.in_ok-settle.ensures.keeps c.in_err-put.ensures.keeps

pub returns-in_err-settle-2-clause-keeps : goal.returns-in_err-settle-2-clause-keeps
returns-in_err-settle-2-clause-keeps g c = keeps_along (keeps_along c.in_ok-settle.ensures.keeps c.in_ok-put.ensures.keeps) c.in_err-settle-2.ensures.keeps

pub returns-clause-keeps : goal.returns-clause-keeps
returns-clause-keeps g c = keeps_along (keeps_along c.in_ok-settle.ensures.keeps c.in_ok-put.ensures.keeps) c.in_ok-settle-2.ensures.keeps

pub returns-clause-copy : goal.returns-clause-copy
returns-clause-copy g c = λ told.
    let there = c.in_ok-settle-2.ensures.keeps.told told in
    let before = c.in_ok-put.ensures.keeps.told there in
    let bytes = c.write.result in
    let settled = (g.W.Outside.view c.settle.new.w).here.copy in
    let put = (g.W.Outside.view c.put.new.w).here.copy in
    let last = (g.W.Outside.view c.settle-2.new.w).here.copy in
    let adds = adds-same settled put last _ (adds-write settled put 0 bytes (c.in_ok-put.ensures.copy there)) (c.in_ok-settle-2.ensures.copy told) in
    record {
      bytes = bytes;
      size = search rules;
      reads = c.write.ensures.back;
      adds = subst (λ (l : List ℕ). AddsBytes 0 bytes l last) (c.in_ok-settle.ensures.copy before) adds;
    }
