-- Why a command is refused, in words.
use Rattle.std.specs.Prelude.{ℕ, List, ◌++◌, codes}
use Rattle.std.specs.Fmt.{decimal}
use Rattle.command_text.specs.declared.reply.CommandRefusal.{CommandRefusal}
use Rattle.command_text.specs.declared.reply.CommandRefusal.TheVariants.{Object, NameTaken, NotEmpty, Cycle, Reserved, Embedded, Property, Value, Line, Protected, Restriction, Scope, Flags, Criteria, Limit, Ids, Full}
use Rattle.command_text.specs.Limits.{limit_word}

-- the words of a refusal; offsets and counts of cells are in decimal
unfoldable pub refusal_words : CommandRefusal → List ℕ
refusal_words Object = codes "object"
refusal_words NameTaken = codes "name-taken"
refusal_words NotEmpty = codes "not-empty"
refusal_words Cycle = codes "cycle"
refusal_words Reserved = codes "reserved"
refusal_words Embedded = codes "embedded"
refusal_words Property = codes "property"
refusal_words Value = codes "value"
refusal_words Line = codes "line"
refusal_words Protected = codes "protected"
refusal_words (Restriction at) = codes "restriction " ++ decimal at
refusal_words Scope = codes "scope"
refusal_words Flags = codes "flags"
refusal_words Criteria = codes "criteria"
refusal_words (Limit limit) = codes "limit " ++ limit_word limit
refusal_words Ids = codes "ids"
refusal_words (Full free need) = codes "full " ++ decimal free ++ codes " " ++ decimal need
