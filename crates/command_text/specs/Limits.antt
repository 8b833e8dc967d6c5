-- Which limit a command would pass, as a word.
use Rattle.std.specs.Prelude.{ℕ, List, codes}
use Rattle.command_text.specs.declared.reply.Limit.{Limit}
use Rattle.command_text.specs.declared.reply.Limit.TheVariants.{Line, Depth, Rows, Properties, Value, Searches, Names, Nesting}

-- the word of a limit
unfoldable pub limit_word : Limit → List ℕ
limit_word Line = codes "line"
limit_word Depth = codes "depth"
limit_word Rows = codes "rows"
limit_word Properties = codes "properties"
limit_word Value = codes "value"
limit_word Searches = codes "searches"
limit_word Names = codes "names"
limit_word Nesting = codes "nesting"
