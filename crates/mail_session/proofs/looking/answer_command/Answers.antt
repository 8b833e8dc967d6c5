use Rattle.std.proofs.Common.{Ok, subst}
use Rattle.session_lines.specs.declared.line.SessionLine.TheVariants.{Command as StoreCommand}
use Rattle.file_filling.specs.search_folders.Comings.{comes_to}
use Rattle.mail_searches.specs.Searching.{Searching}
use Rattle.mail_session.specs.Looking.{TellsTree}
use Rattle.file_filling.proofs.mail_reading_laws.Answered.{StopAnswers, asked_given, asked_stop}
use Rattle.mail_session.proofs.LookingLaws.{looks_on, refusal_says, reply_says, stop_says, stop_stops}
use Rattle.mail_session.proofs.looking.answer_command.Goals as goal

pub returns-in-Ok-clause-says : goal.returns-in-Ok-clause-says
returns-in-Ok-clause-says g c = record {
  same = c.ask.ensures.looks.world;
  says = λ X h. (
    reply_says X _ c.args.command.now _ (asked_given (comes_to X) X c.args.command.now h.whole h.are c.in-Ok.coming (c.in-Ok.ensures.answer X h.shown h.knows h.searches)) c.reply_spoken.ensures,
    looks_on _ _ X c.ask.ensures.looks h,
  );
}

pub returns-in-Err-clause-says : goal.returns-in-Err-clause-says
returns-in-Err-clause-says g c =
    let asks : (X : Searching) → TellsTree (g.K.NodeReader.holds c.args.reader.now.keeper (g.W.Outside.view c.args.world.now)) (g.K.NodeReader.last c.args.reader.now.keeper) c.args.reader.now.known c.args.reader.now.searches X → StopAnswers X c.args.command.now c.in-Err.stop = λ X h. asked_stop (comes_to X) X c.args.command.now h.whole h.are c.in-Err.stop (c.in-Err.ensures.answer X h.shown h.knows h.searches) in
    stop_says _ _ (g.W.Outside.view c.args.world.now) (g.W.Outside.view c.ask.new.w) (Ok (StoreCommand c.args.command.now)) c.in-Err.stop c.ask.ensures.looks.world g.K.NodeReader.has_disk c.in-Err.ensures.cause
    (λ X h. refusal_says X c.args.command.now c.in-Err.stop (asks X h)) (λ X h ib stored computed is. subst (StopAnswers X c.args.command.now) is (asks X h)) (λ X h. looks_on _ _ X c.ask.ensures.looks h) c.stopped.result c.stopped.ensures

pub returns-in-Err-clause-stops : goal.returns-in-Err-clause-stops
returns-in-Err-clause-stops g c =
    let asks : (X : Searching) → TellsTree (g.K.NodeReader.holds c.args.reader.now.keeper (g.W.Outside.view c.args.world.now)) (g.K.NodeReader.last c.args.reader.now.keeper) c.args.reader.now.known c.args.reader.now.searches X → StopAnswers X c.args.command.now c.in-Err.stop = λ X h. asked_stop (comes_to X) X c.args.command.now h.whole h.are c.in-Err.stop (c.in-Err.ensures.answer X h.shown h.knows h.searches) in
    stop_stops _ _ (g.W.Outside.view c.args.world.now) (g.W.Outside.view c.ask.new.w) (Ok (StoreCommand c.args.command.now)) c.in-Err.stop c.ask.ensures.looks.world g.K.NodeReader.has_disk c.in-Err.ensures.cause
    (λ X h. refusal_says X c.args.command.now c.in-Err.stop (asks X h)) (λ X h ib stored computed is. subst (StopAnswers X c.args.command.now) is (asks X h)) (λ X h. looks_on _ _ X c.ask.ensures.looks h) c.stopped.result c.stopped.ensures
