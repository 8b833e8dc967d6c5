use Rattle.std.proofs.Common.{◌≡◌, ◌∙◌, ◌+◌, ◌++◌, ◌∷◌, [], ℕ, List, length, get_or, take, sym, ap, subst, arith, append_assoc}
use Rattle.std.specs.List.{flat_map}
use Rattle.std.proofs.lemmas.List.{flat_map_more, take_all, take_more}
use Rattle.mapi_values.specs.declared.column.Column.{Column}
use Rattle.table_writer.specs.Filling.{no_column}
use Rattle.table_writer.specs.Writing.{AllFit, column_bytes, front_of}
use Rattle.table_writer.proofs.HeaderLaws.{fit-push, header-made}
use Rattle.table_writer.proofs.write.header.Goals as goal

pub loop-column-preserved : goal.loop-column-preserved
loop-column-preserved c =
    let front = front_of (length c.args.columns.now) c.args.ends.now c.args.index c.args.matrix in
    let seen = take c.loop-column.column-index c.args.columns.now in
    let more : take (c.loop-column.column-index + 1) c.args.columns.now ≡ take c.loop-column.column-index c.args.columns.now ++ (get_or c.args.columns.now c.loop-column.column-index no_column) ∷ [] =
    take_more c.args.columns.now c.loop-column.column-index no_column (omega (arith, c.loop-column-test.true)) in
    record {
      ends = c.loop-column.invariant.ends;
      bytes = c.in_ok-push_column.ensures.bytes ∙ ap (λ (l : List ℕ). l ++ column_bytes (get_or c.args.columns.now c.loop-column.column-index no_column)) c.loop-column.invariant.bytes
          ∙ append_assoc (front_of (length c.args.columns.now) c.args.ends.now c.args.index c.args.matrix) (flat_map column_bytes (take c.loop-column.column-index c.args.columns.now)) (column_bytes (get_or c.args.columns.now c.loop-column.column-index no_column))
          ∙ ap (λ (l : List ℕ). front_of (length c.args.columns.now) c.args.ends.now c.args.index c.args.matrix ++ l) (flat_map_more column_bytes [] (take c.loop-column.column-index c.args.columns.now) (get_or c.args.columns.now c.loop-column.column-index no_column))
          ∙ ap (λ (cs : List Column). front_of (length c.args.columns.now) c.args.ends.now c.args.index c.args.matrix ++ flat_map column_bytes cs) (sym more);
      fit = subst AllFit (sym more) (fit-push (take c.loop-column.column-index c.args.columns.now) (get_or c.args.columns.now c.loop-column.column-index no_column) c.loop-column.invariant.fit c.in_ok-push_column.ensures.fits);
    }

pub returns : goal.returns
returns c =
    let all : take c.loop-column.column-index c.args.columns.now ≡ c.args.columns.now = take_all c.loop-column.column-index c.args.columns.now (omega (arith, c.loop-column-test.false)) in
    header-made c.loop-column.x.items c.args.columns.now c.args.ends.now c.args.index c.args.matrix
    (c.loop-column.invariant.bytes ∙ ap (λ (cs : List Column). front_of (length c.args.columns.now) c.args.ends.now c.args.index c.args.matrix ++ flat_map column_bytes cs) all)
    c.loop-column.invariant.ends (subst AllFit all c.loop-column.invariant.fit) c.requires.count (omega arith) (omega arith) c.requires.layout c.requires.low c.requires.high
