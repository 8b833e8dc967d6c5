use Rattle.std.proofs.Common.{sym}
use Rattle.mail_folders.proofs.Steps.{name_known}
use Rattle.mail_folders.proofs.names.known_name.Goals as goal

pub returns-in-Some : goal.returns-in-Some
returns-in-Some c = λ T are.
    rw (c.eq.ensures, c.as_slice.ensures.value, c.as_slice-in-Some.ensures.value) (name_known T c.args.name.now c.in-Some.own.now c.args.folder.bits c.args.flags.now are (sym c.in-Some.ensures))
