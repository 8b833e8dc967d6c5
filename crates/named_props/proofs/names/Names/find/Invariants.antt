use Rattle.std.proofs.Common.{◌≡◌, drop}
use Rattle.std.specs.List.{find}
use Rattle.named_props.specs.Finding.{is_named}
use Rattle.named_props.proofs.names.Names.find.Given as goal

abbrev pub invariant-loop-entry : goal.invariant-loop-entry
invariant-loop-entry l =
    find (is_named l.self.guids l.guid l.id) (drop l.entry-index l.entry-items) ≡ find (is_named l.self.guids l.guid l.id) l.self.entries
