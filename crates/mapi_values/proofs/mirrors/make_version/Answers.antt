use Rattle.mapi_values.proofs.TableLaws.{version-fits}
use Rattle.mapi_values.proofs.mirrors.make_version.Goals as goal

pub new-requires : goal.new-requires
new-requires c = rw c.in_ok-from_slice.ensures version-fits
