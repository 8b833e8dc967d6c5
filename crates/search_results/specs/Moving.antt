-- The messages within a folder that moves, part by part.
use Rattle.std.specs.Prelude.{ℕ, ◌&&◌, ◌==◌, ◌++◌, Bool, false, List, [], ◌∷◌, Some, Ok, if◌then◌else◌}
use Rattle.restr_eval.specs.Eval.{holds_of}
use Rattle.mail_tree.specs.declared.places.FolderPlace.{FolderPlace}
use Rattle.mail_tree.specs.Changing.{Answer, ◌>>=◌, contents, message_at, nothing, table_at}
use Rattle.mail_tree.specs.Places.{is_plain, is_within, parent_in, place_id}
use Rattle.mail_tree.specs.Settling.{message_ids}
use Rattle.mail_tree.specs.Tree.{Tree}
use Rattle.mail_searches.specs.Relisting.{Touch}
use Rattle.mail_searches.specs.Touching.{carried, stands_in}

-- what each gives, joined
abbrev pub joined : {A B : Type 0} → (A → Answer (List B)) → List A → Answer (List B)
joined f [] = Ok []
joined f (x ∷ xs) = f x >>= λ ys. joined f xs >>= λ more. Ok (ys ++ more)

-- a message that stays as it is
unfoldable pub carried_one : Tree → ℕ → Answer Touch
carried_one T m = message_at T nothing m >>= λ M. Ok (record { nid = m; old = Some M; new = Some M; anew = false })

-- the messages of a folder, if that is plain and stands within f
unfoldable pub carried_in : Tree → ℕ → FolderPlace → Answer (List Touch)
carried_in T f p = if is_plain p && is_within T.places f (place_id p) then (table_at T nothing (contents (place_id p)) >>= λ t. carried T (message_ids t.table)) else Ok []

-- the folder stands directly in that one
abbrev pub stands_directly : List FolderPlace → ℕ → ℕ → Bool
stands_directly places f parent = holds_of (λ p. p == parent) (parent_in places f)

-- the messages within a folder that moves into that one
abbrev pub carried_along : Tree → ℕ → ℕ → Answer (List Touch)
carried_along T f parent = if stands_in T f parent then Ok [] else joined (carried_in T f) T.places
