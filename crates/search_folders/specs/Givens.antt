-- What a line of criteria gives, and what a search then is to say.
use Rattle.std.specs.Prelude.{ℕ, List, map, Option, Ok}
use Rattle.std.specs.Option.{option_map}
use Rattle.restr_codec.specs.Restr.{Restr}
use Rattle.search_obj.specs.Changing.{changed}
use Rattle.search_obj.specs.Crits.{Crit}
use Rattle.search_obj.specs.Flags.{flags_of}
use Rattle.search_obj.specs.declared.flags.SearchFlags.{SearchFlags}
use Rattle.command_text.specs.declared.reply.CommandRefusal.TheVariants.{Criteria, Flags}
use Rattle.mail_objects.specs.Forms.{Ctx}
use Rattle.mail_tree.specs.Changing.{Answer, ◌>>=◌, found}
use Rattle.mail_tree.specs.Tree.{Tree}
use Rattle.mail_searches.specs.Criteria.{given_restriction, given_scope}
use Rattle.search_folders.specs.Pieces.{criteria_at}
use Rattle.search_folders.specs.declared.given.Given.{Given}

-- what a line gives: flags, a restriction and folders
abbrev pub Gift : Type 0
Gift = SearchFlags × (Option Restr × Option (List ℕ))

abbrev pub given_of : Given → Gift
given_of g = (g.flags, (g.restriction, option_map (λ ids. map (λ n. n.bits) ids.items) g.scope))

-- what a line gives, if a search may have it
unfoldable pub given_all : Tree → ℕ → Option (List ℕ) → Option (List ℕ) → Answer Gift
given_all T number scope bytes = found Flags (flags_of number) >>= λ flags. given_restriction bytes >>= λ restriction. given_scope T scope >>= λ ids. Ok (flags, (restriction, ids))

-- the criteria object of a search, and the criteria that it is to say once this was given
unfoldable pub criteria_after : Tree → ℕ → Gift → Answer (Ctx × Crit)
criteria_after T s g = criteria_at T s >>= λ p. found Criteria (changed p.1 g.0 g.1.1 g.1.0) >>= λ k. Ok (p.0, k)
