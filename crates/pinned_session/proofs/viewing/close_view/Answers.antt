use Rattle.std.proofs.Common.{◌∙◌, inl, sym}
use Rattle.line_server.specs.Spoken.{spoken_text}
use Rattle.pinned_session.proofs.ViewLaws.{closes_found, closes_none}
use Rattle.pinned_session.proofs.viewing.close_view.Goals as goal

pub returns-in_default : goal.returns-in_default
returns-in_default c = closes_none c.args.view c.args.views.now (spoken_text c.view_spoken.result) (sym c.view_at.ensures ∙ c.in_default.is) c.view_spoken.ensures

pub returns : goal.returns
returns c = inl (closes_found c.args.view c.args.views.now c.close_named.new.views.items c.in-Ok.text c.in-Some.open (sym c.view_at.ensures ∙ c.in-Some.is) c.in-Ok.ensures c.close_named.ensures)
