use Rattle.command_text.specs.declared.reply.CommandRefusal.TheVariants.{Reserved}
use Rattle.mail_tree.specs.Changing.{◌>>=◌, context_at, nothing}
use Rattle.mail_tree.specs.Folders.{folder_in, unless_plain}
use Rattle.mail_tree.specs.Messages.{given_message}
use Rattle.mail_messages.specs.Finding.{plain_at}
use Rattle.mail_messages.specs.Parts.{making_in}
use Rattle.mail_draft.proofs.DeskCalls.{asked_places, comes_exit, comes_then}
use Rattle.mail_draft.proofs.DeskLoops.{reads_none, reads_ok}
use Rattle.mail_messages.proofs.Calls.{comes_regrouped}
use Rattle.mail_messages.proofs.making.given_message.Goals as goal

pub returns-in_err-check_plain-clause-answer : goal.returns-in_err-check_plain-clause-answer
unfolding given_message
returns-in_err-check_plain-clause-answer g c =
    let f = c.args.folder.bits in
    comes_regrouped (λ T D. folder_in T f) (λ T D. unless_plain) (λ T D u. context_at T nothing 0x21 >>= λ store. making_in T f c.args.class.now c.args.time store.props c.args.values.now)
    (comes_exit _ (asked_places (λ (u : Unit {0}). u) (plain_at f Reserved) _ c.places.ensures c.in_err-check_plain.ensures.answer) c.from_residual.ensures.1)

pub returns-in_err-store-clause-answer : goal.returns-in_err-store-clause-answer
unfolding given_message
returns-in_err-store-clause-answer g c =
    let f = c.args.folder.bits in
    comes_regrouped (λ T D. folder_in T f) (λ T D. unless_plain) (λ T D u. context_at T nothing 0x21 >>= λ store. making_in T f c.args.class.now c.args.time store.props c.args.values.now)
    (comes_then _ (asked_places (λ (u : Unit {0}). u) (plain_at f Reserved) _ c.places.ensures c.in_ok-check_plain.ensures.answer) (reads_ok _ (reads_none _))
    (comes_exit _ c.in_err-store.ensures.answer c.from_residual-in_err-store.ensures.1))

pub returns-clause-answer : goal.returns-clause-answer
unfolding given_message
returns-clause-answer g c =
    let f = c.args.folder.bits in
    comes_regrouped (λ T D. folder_in T f) (λ T D. unless_plain) (λ T D u. context_at T nothing 0x21 >>= λ store. making_in T f c.args.class.now c.args.time store.props c.args.values.now)
    (comes_then _ (asked_places (λ (u : Unit {0}). u) (plain_at f Reserved) _ c.places.ensures c.in_ok-check_plain.ensures.answer) (reads_ok _ (reads_none _))
    (comes_then _ c.in_ok-store.ensures.answer c.in_ok-store.ensures.reads c.make_message.ensures.answer))
