-- A name as UTF-8, a character at a time.
use Rattle.std.proofs.Common.{◌≡◌, ℕ, List, [], ◌∷◌, ◌++◌, refl, append_assoc}
use Rattle.mapi_values.specs.Characters.{characters}
use Rattle.mapi_values.specs.declared.characters.Character.{Character}
use Rattle.mail_tree.specs.Start.{utf8_bytes, utf8_of}

-- one more character written, and none left
pub utf8-more : (done next us rest : List ℕ) (ch : Character) → characters us ≡ ch ∷ characters rest
    → next ≡ done ++ utf8_bytes ch → next ++ utf8_of rest ≡ done ++ utf8_of us
unfolding utf8_of
utf8-more done next us rest ch e is = rw (is, e) (append_assoc done _ _)

pub utf8-nil : utf8_of [] ≡ []
unfolding utf8_of characters
utf8-nil = refl
