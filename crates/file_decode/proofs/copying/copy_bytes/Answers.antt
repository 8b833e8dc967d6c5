use Rattle.std.proofs.Common.{◌≡◌, ◌∙◌, ◌-◌, ◌++◌, ℕ, List, [], length, take, drop, refl, ap, arith, length-append, length-drop}
use Rattle.std.proofs.lemmas.List.{length-take, take_all}
use Rattle.pst_outside.specs.World.{Image}
use Rattle.file_decode.specs.Decoding.{no_header}
use Rattle.file_decode.proofs.CopyLaws.{no-header, zeros-first}
use Rattle.copy_part.proofs.Keeping.{keeps_along, keeps_untouched}
use Rattle.file_decode.proofs.Pieces.{piece_more}
use Rattle.file_decode.proofs.copying.copy_bytes.Goals as goal

pub returns-in_err-put-clause-keeps : goal.returns-in_err-put-clause-keeps
returns-in_err-put-clause-keeps g c = keeps_along (keeps_untouched c.in_ok-len.ensures.same) c.in_err-put.ensures.keeps

pub loop-at-init : goal.loop-at-init
unfolding no_header
loop-at-init g c =
    let same = c.in_ok-len.ensures.same.stays in
    let keeps = c.in_ok-put.ensures.keeps in
    record {
      keeps = keeps_along (keeps_untouched c.in_ok-len.ensures.same) keeps;
      low = omega arith;
      long = λ told. c.in_ok-len.ensures.len (keeps.told told) ∙ ap (λ (i : Image). length i.main) (same.here (keeps.told told));
      copy = λ told.
          let before = keeps.told told in
          let none : (g.W.Outside.view c.len.new.self).here.copy ≡ [] = ap (λ (i : Image). i.copy) (same.here before) ∙ c.requires.empty (same.told before) in
          c.in_ok-put.ensures.copy told ∙ zeros-first (g.W.Outside.view c.len.new.self).here.copy _ (g.W.Outside.view c.args.w.now).here.main none refl;
    }

pub returns-in_err-copy_piece-clause-keeps : goal.returns-in_err-copy_piece-clause-keeps
returns-in_err-copy_piece-clause-keeps g c = keeps_along c.loop-at.invariant.keeps c.in_err-copy_piece.ensures.keeps

pub loop-at-preserved : goal.loop-at-preserved
loop-at-preserved g c =
    let inv = c.loop-at.invariant in
    let keeps = c.in_ok-copy_piece.ensures.keeps in
    record {
      keeps = keeps_along inv.keeps keeps;
      low = omega arith;
      long = λ told. inv.long (keeps.told told);
      copy = λ told.
          let before = keeps.told told in
          let main : List ℕ = (g.W.Outside.view c.args.w.now).here.main in
          let copy : List ℕ = (g.W.Outside.view c.loop-at.w).here.copy in
          let at : ℕ = c.loop-at.at in
          let n : ℕ = c.min-n.result in
          let test = c.loop-at-test.true in
          let long = inv.long before in
          let low = inv.low in
          let full : length (take n c.loop-at.buffer) ≡ n = omega (arith, length-take n c.loop-at.buffer) in
          let end : length copy ≡ at = omega (arith, ap length (inv.copy before), length-append no_header (take (at - 564) (drop 564 main)), no-header, length-take (at - 564) (drop 564 main), length-drop 564 main, long, test, low) in
          c.in_ok-copy_piece.ensures.copy told ∙ piece_more main copy no_header _ 564 at n low (inv.copy before) end (λ i. take (full i) (drop at ((inv.keeps.same before).main i)));
    }

pub returns-clause-copy : goal.returns-clause-copy
returns-clause-copy g c = λ told.
    let long = c.loop-at.invariant.long told in
    let test = c.loop-at-test.false in
    let main : List ℕ = (g.W.Outside.view c.args.w.now).here.main in
    c.loop-at.invariant.copy told ∙ ap (λ (l : List ℕ). no_header ++ l) (take_all (c.loop-at.at - 564) (drop 564 main) (omega (arith, length-drop 564 main, long, test)))
