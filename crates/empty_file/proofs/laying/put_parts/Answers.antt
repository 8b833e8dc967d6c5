use Rattle.std.proofs.Common.{◌∙◌}
use Rattle.empty_file.proofs.Laid.{fixed-pages, header-fits, laid, none-behind}
use Rattle.empty_file.proofs.laying.put_parts.Goals as goal

pub close_gate-requires-clause-side : goal.close_gate-requires-clause-side
close_gate-requires-clause-side g c = λ t. none-behind (c.requires.vacant (c.write_pieces.ensures.told t)) (c.write_pieces.ensures.content t)

pub close_gate-requires-clause-long : goal.close_gate-requires-clause-long
close_gate-requires-clause-long g c = λ t. header-fits _ c.requires.parts (c.in_ok-write_pieces.ensures.holds t)

pub returns-clause-told : goal.returns-clause-told
returns-clause-told g c = λ t. c.write_pieces.ensures.told (c.close_gate.ensures.told t)

pub returns-clause-input : goal.returns-clause-input
returns-clause-input g c = λ t. c.close_gate.ensures.input t ∙ c.write_pieces.ensures.input (c.close_gate.ensures.told t)

pub returns-clause-copy : goal.returns-clause-copy
returns-clause-copy g c = λ t. (c.close_gate.ensures.store t).copy ∙ (c.write_pieces.ensures.content (c.close_gate.ensures.told t)).others.1

pub returns-clause-said : goal.returns-clause-said
returns-clause-said g c = λ t. (c.close_gate.ensures.store t).said ∙ (c.write_pieces.ensures.content (c.close_gate.ensures.told t)).others.2

pub returns-clause-lays : goal.returns-clause-lays
returns-clause-lays g c = λ t.
    let u = c.close_gate.ensures.told t in
    laid c.requires.first c.requires.parts (c.requires.vacant (c.write_pieces.ensures.told u)) (c.write_pieces.ensures.content u) (c.in_ok-write_pieces.ensures.holds u) (c.close_gate.ensures.store t) (c.in_ok-close_gate.ensures.shut t)

pub returns-clause-pages : goal.returns-clause-pages
returns-clause-pages g c = λ t.
    let u = c.close_gate.ensures.told t in
    fixed-pages c.requires.parts (c.requires.vacant (c.write_pieces.ensures.told u)) (c.write_pieces.ensures.content u) (c.in_ok-write_pieces.ensures.holds u) (c.close_gate.ensures.store t) (c.in_ok-close_gate.ensures.shut t)
