use Rattle.table_context.proofs.ContextLaws.{no-table, one-table}
use Rattle.table_context.proofs.law.one_table.Goals as goal

pub returns-clause-one : goal.returns-clause-one
returns-clause-one c = one-table

pub returns-clause-none : goal.returns-clause-none
returns-clause-none c = no-table
