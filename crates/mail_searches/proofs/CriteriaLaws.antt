-- The criteria that an object says are found in its values.
use Rattle.std.proofs.Common.{◌≡◌, List, Some, refl}
use Rattle.mapi_values.specs.Values.{Val}
use Rattle.search_obj.specs.Crits.{Crit}
use Rattle.search_obj.specs.Objects.{Says}
use Rattle.search_obj.proofs.FoundLaws.{crit_back, version_back}
use Rattle.mail_searches.specs.Searches.{criteria_of}

pub says-found : (props : List Val) (c : Crit) → Says props c → criteria_of props ≡ Some c
unfolding criteria_of
says-found props c says = rw (version_back props c.version says.marked, crit_back props c says) refl
