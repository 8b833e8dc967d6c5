-- Tests that refuse a command or let it pass.
use Rattle.std.proofs.Common.{◌≡◌, Bool, true, false, Ok, Err, refl}
use Rattle.command_text.specs.declared.reply.CommandRefusal.{CommandRefusal}
use Rattle.mail_tree.specs.Changing.{refused_if}
use Rattle.mail_draft.specs.declared.stop.Stop.TheVariants.{Refused}
use Rattle.mail_draft.specs.Answers.{Says}

-- a test alone
pub test_refuses : (b : Bool) (refusal : CommandRefusal) → b ≡ true → Says (λ (u : Unit {0}). u) (refused_if b refusal) (Err (Refused refusal))
test_refuses true refusal e = refl
test_refuses false refusal e = cc

pub test_passes : (b : Bool) (refusal : CommandRefusal) → b ≡ false → Says (λ (u : Unit {0}). u) (refused_if b refusal) (Ok tt)
test_passes true refusal e = cc
test_passes false refusal e = refl
