-- The values true and false.
use Rattle.std.specs.Prelude.{ℕ, ◌==◌, List, [], ◌∷◌, get_or, Option, None, Some, bytes_eq, codes, if◌then◌else◌}

-- the byte of `true` or `false`
unfoldable pub truth_bytes : List ℕ → Option (List ℕ)
truth_bytes text =
    if bytes_eq text (codes "true") then Some (1 ∷ [])
    else if bytes_eq text (codes "false") then Some (0 ∷ [])
    else None

-- true where the byte isn't 0
unfoldable pub truth_text : List ℕ → List ℕ
truth_text bytes = if get_or bytes 0 0 == 0 then codes "false" else codes "true"
