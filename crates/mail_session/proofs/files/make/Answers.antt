use Rattle.mail_session.proofs.Disks.{keeps_started, keeps_untouched}
use Rattle.mail_session.proofs.FileLaws.{new_changed, new_failed, new_lacks, new_made, new_refused, none_changed, none_made}
use Rattle.mail_session.proofs.files.make.Goals as goal

pub returns-in-Made : goal.returns-in-Made
returns-in-Made g c =
    let call = c.make_file.ensures in
    new_made c.args.name.now call.counts call.told call.input (call.made c.in-Made.is) (λ settled. call.rests settled c.in-Made.is) call.said (λ told has. none_made c.make_file.result (call.kept told has).1 c.in-Made.is) c.say.ensures

pub returns-in-NotEmpty : goal.returns-in-NotEmpty
returns-in-NotEmpty g c =
    let stays = c.make_file.ensures.not_empty c.in-NotEmpty.is in
    new_refused c.args.name.now stays.0 stays.1 c.say-in-NotEmpty.ensures

pub returns-in-Disk : goal.returns-in-Disk
returns-in-Disk g c =
    let call = c.make_file.ensures in
    new_failed c.args.name.now call.counts call.input call.said (λ told has. keeps_untouched (keeps_started (g.W.Outside.view c.args.world.now)) (call.kept told has).0) (call.fault c.in-Disk.is)

pub returns-in-Changed : goal.returns-in-Changed
returns-in-Changed g c =
    let call = c.make_file.ensures in
    let at = c.in-Changed in
    new_changed c.args.name.now call.counts call.input (call.not_changed at.ib at.stored at.computed at.is) (λ told has. none_changed c.make_file.result at.ib at.stored at.computed (call.kept told has).1 at.is)

pub returns-in-Memory : goal.returns-in-Memory
returns-in-Memory g c =
    let call = c.make_file.ensures in
    new_lacks c.args.name.now call.counts call.input call.said (λ told has. keeps_untouched (keeps_started (g.W.Outside.view c.args.world.now)) (call.kept told has).0)
