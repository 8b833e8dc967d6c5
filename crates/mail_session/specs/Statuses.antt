-- The numbers of the statuses.
use Rattle.std.specs.Prelude.{◌≡◌, ℕ, Option, Some, None}
use Rattle.mail_session.specs.declared.exit.ChangedAt.{ChangedAt}
use Rattle.mail_session.specs.declared.exit.Status.{Status}
use Rattle.mail_session.specs.declared.exit.Status.TheVariants.{Done, Words, Refused, Disk, Input, Output, Memory, Lines, Changed}

abbrev pub code_of : Status → ℕ
code_of Done = 0
code_of Words = 2
code_of Refused = 3
code_of Disk = 4
code_of Input = 5
code_of Output = 6
code_of Memory = 7
code_of Lines = 8
code_of (Changed at) = 9

-- what changed
abbrev pub changed_of : Status → Option ChangedAt
changed_of (Changed at) = Some at
changed_of other = None

-- the number is that of a status for which the fact holds
abbrev pub EndsAs : (Status → Type 0) → ℕ → Type 0
EndsAs P number = (status : Status) × (number ≡ code_of status) × P status
