-- The counts of a folder of which it is known whether it has folders.
use Rattle.std.specs.Prelude.{ℕ, Bool, length, Ok}
use Rattle.mail_tree.specs.Tree.{Tree}
use Rattle.mail_tree.specs.Values.{with_counts}
use Rattle.mail_tree.specs.Changing.{Answer, Changed, ◌>>=◌, contents, context_at, table_at}
use Rattle.mail_tree.specs.Settling.{message_ids, mirrored, unread_among, with_context}

-- the folder is counted anew
abbrev pub counted_with : Tree → Bool → ℕ → Changed → Answer Changed
counted_with T has_folders f D = context_at T D f >>= λ c. table_at T D (contents f) >>= λ t. unread_among T D (message_ids t.table) >>= λ unread.
    Ok (with_context f c (with_counts (length (message_ids t.table)) unread has_folders c.props) D)

-- so it is, and its row shows it
abbrev pub settled_with : Tree → Bool → ℕ → Changed → Answer Changed
settled_with T has_folders f D = counted_with T has_folders f D >>= mirrored T f
