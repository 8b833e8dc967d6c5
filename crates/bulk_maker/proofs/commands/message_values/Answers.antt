use Rattle.bulk_maker.proofs.Lengths.{subject_short}
use Rattle.bulk_maker.proofs.commands.message_values.Goals as goal

pub text_value-requires : goal.text_value-requires
text_value-requires c = subject_short c.args.seed c.args.index c.in_ok-subject.subject c.ranges.index.fits c.in_ok-subject.ensures
