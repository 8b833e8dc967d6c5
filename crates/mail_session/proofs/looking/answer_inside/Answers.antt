use Rattle.std.proofs.Common.{◌≡◌, ◌∙◌, Ok, sym, subst}
use Rattle.tree_look.proofs.mail_draft_laws.Looking.{untouched_same}
use Rattle.command_text.specs.declared.reply.CommandRefusal.TheVariants.{Line}
use Rattle.line_server.specs.Spoken.{spoken_text}
use Rattle.session_lines.specs.declared.line.SessionLine.TheVariants.{Embedded}
use Rattle.file_filling.specs.pinned_session.mail_embedding.Meant.{Means}
use Rattle.mail_session.proofs.LookingLaws.{becomes_none, inside_calm, inside_refuses, inside_replies, looks_on, none_says, refusal_asks, stop_says, stop_stops}
use Rattle.mail_session.proofs.looking.answer_inside.Goals as goal

pub returns-then-not-reads_inside-clause-says : goal.returns-then-not-reads_inside-clause-says
returns-then-not-reads_inside-clause-says g c = record {
  same = untouched_same (g.W.Outside.view c.args.world.now);
  says = λ X h. (
    refusal_asks X (Ok (Embedded c.args.line.now)) Line c.refusal_spoken.result (none_says X c.args.line.now (spoken_text c.refusal_spoken.result) (sym c.reads_inside.ensures ∙ c.if-not-reads_inside.true)) c.refusal_spoken.ensures,
    h,
  );
}

pub returns-in-Ok-Replies-clause-says : goal.returns-in-Ok-Replies-clause-says
returns-in-Ok-Replies-clause-says g c = record {
  same = c.mean.ensures.looks.world;
  says = λ X h. (
    inside_replies X c.args.line.now (sym c.reads_inside.ensures ∙ c.if-not-reads_inside.false) c.mean.result (c.mean.ensures.answer X.tree h.shown h.knows h.whole) _ c.in-Ok-Replies.reply (rw c.in-Ok-Replies.field-0-is at c.in-Ok-Replies.is) c.reply_spoken.ensures,
    looks_on _ _ X c.mean.ensures.looks h,
  );
}

pub returns-in-Ok-Becomes-clause-says : goal.returns-in-Ok-Becomes-clause-says
returns-in-Ok-Becomes-clause-says g c = record {
  same = c.mean.ensures.looks.world;
  says = λ X h. absurd (becomes_none X.tree c.args.line.now c.in-Ok-Becomes.field-0-0 (sym c.reads_inside.ensures ∙ c.if-not-reads_inside.false)
      (subst (Means X.tree c.args.line.now) (rw c.in-Ok-Becomes.field-0-is at c.in-Ok-Becomes.is) (c.mean.ensures.answer X.tree h.shown h.knows h.whole)));
}

pub returns-clause-says : goal.returns-clause-says
returns-clause-says g c =
    stop_says _ _ (g.W.Outside.view c.args.world.now) (g.W.Outside.view c.mean.new.w) (Ok (Embedded c.args.line.now)) c.in-Err.stop c.mean.ensures.looks.world g.K.NodeReader.has_disk c.in-Err.ensures.cause
    (λ X h. inside_refuses X c.args.line.now (sym c.reads_inside.ensures ∙ c.if-not-reads_inside.false) c.mean.result (c.mean.ensures.answer X.tree h.shown h.knows h.whole) c.in-Err.stop c.in-Err.is)
    (λ X h. inside_calm X c.args.line.now (sym c.reads_inside.ensures ∙ c.if-not-reads_inside.false) c.mean.result (c.mean.ensures.answer X.tree h.shown h.knows h.whole) c.in-Err.stop c.in-Err.is)
    (λ X h. looks_on _ _ X c.mean.ensures.looks h) c.stopped.result c.stopped.ensures

pub returns-clause-stops : goal.returns-clause-stops
returns-clause-stops g c =
    stop_stops _ _ (g.W.Outside.view c.args.world.now) (g.W.Outside.view c.mean.new.w) (Ok (Embedded c.args.line.now)) c.in-Err.stop c.mean.ensures.looks.world g.K.NodeReader.has_disk c.in-Err.ensures.cause
    (λ X h. inside_refuses X c.args.line.now (sym c.reads_inside.ensures ∙ c.if-not-reads_inside.false) c.mean.result (c.mean.ensures.answer X.tree h.shown h.knows h.whole) c.in-Err.stop c.in-Err.is)
    (λ X h. inside_calm X c.args.line.now (sym c.reads_inside.ensures ∙ c.if-not-reads_inside.false) c.mean.result (c.mean.ensures.answer X.tree h.shown h.knows h.whole) c.in-Err.stop c.in-Err.is)
    (λ X h. looks_on _ _ X c.mean.ensures.looks h) c.stopped.result c.stopped.ensures
