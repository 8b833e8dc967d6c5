-- The rows that an index names, one by one.
use Rattle.std.proofs.Common.{◌≡◌, ◌∙◌, ◌≤◌, ◌<◌, ◌+◌, ◌*◌, ◌/◌, ◌%◌, ◌==◌, ◌++◌, ◌∷◌, [], ℕ, List, length, get_or, drop, take, map, All, nat_le, Option, Some, None, sym, ap, arith, inl, inr, length-drop}
use Rattle.std.specs.Prelude.{slice_get}
use Rattle.std.proofs.lemmas.Bool.{cases_Bool, cases_lt, leb-true}
use Rattle.std.proofs.lemmas.List.{drop_more, get_or_append_left, get_or_push, length_push, length-take-le}
use Rattle.std.specs.Option.{option_and_then}
use Rattle.byteorder.specs.Endian.{little_number}
use Rattle.bth_tree.specs.declared.record.Record.{Record}
use Rattle.bth_tree.specs.Answers.{seen}
use Rattle.bth_tree.proofs.OptionLaws.{bind-some, none-some}
use Rattle.mapi_values.specs.declared.column.Column.{Column}
use Rattle.mapi_values.specs.Values.{Val}
use Rattle.table_context.specs.declared.rows.RawRow.{RawRow}
use Rattle.table_context.specs.Answers.{raw_seen}
use Rattle.table_context.specs.Rows.{piece, raw_rows, row_in, row_of, rows_of}
use Rattle.table_context.proofs.StepLaws.{before, before-step, first}

pub all-push : {X : Type 0} (P : X → Type 0) (xs : List X) (x : X) → All P xs → P x → All P (xs ++ x ∷ [])
all-push P xs x all here = λ i d h. elim (cases_lt i (length xs)) [
  | inl low ↦ rw (get_or_append_left xs (x ∷ []) d i low) (all i d low)
  | inr high ↦ rw (get_or_push xs x d i (omega (arith, length_push xs x, high, h))) here
]

pub piece-size : (size n : ℕ) (b x : List ℕ) → piece size n b ≡ Some x → length x ≡ size
unfolding piece
piece-size size n b x h = elim (cases_Bool (nat_le (n * size + size) (length b))) [
  | inl t ↦
      let same : Some (take size (drop (n * size) b)) ≡ Some x = rw t at h in
      let e : take size (drop (n * size) b) ≡ x = cc in
      let room : size ≤ length (drop (n * size) b) = omega (arith, leb-true (n * size + size) (length b) t, length-drop (n * size) b) in
      ap length (sym e) ∙ length-take-le size (drop (n * size) b) room
  | inr f ↦
      let none : None ≡ Some x = rw f at h in
      absurd (none-some x none)
]

pub row-size : (get : ℕ → Option (List ℕ)) (sub : ℕ → Option (List (List ℕ))) (size hnid n : ℕ) (x : List ℕ) → row_in get sub size hnid n ≡ Some x → length x ≡ size
unfolding row_in
row-size get sub size hnid n x h = elim (cases_Bool (hnid % 32 == 0)) [
  | inl t ↦
      let a = bind-some (piece size n) (get hnid) x (rw t at h) in
      piece-size size n a.0 x a.2
  | inr f ↦
      let a = bind-some (λ (blocks : List (List ℕ)). option_and_then (piece size (n % (8176 / size))) (slice_get blocks (n / (8176 / size)))) (sub hnid) x (rw f at h) in
      let b = bind-some (piece size (n % (8176 / size))) (slice_get a.0 (n / (8176 / size))) x a.2 in
      piece-size size (n % (8176 / size)) b.0 x b.2
]

module _ (row : ℕ → Option (List ℕ)) where
  raws-more : (recs : List Record) (i : ℕ) (d : Record) → i < length recs
      → raw_rows row (map seen (drop i recs)) ≡ option_and_then (λ (x : List ℕ). first ((get_or recs i d).key, x) (raw_rows row (map seen (drop (i + 1) recs)))) (row (little_number 4 (get_or recs i d).entry.now))
  raws-more recs i d h = ap (λ (rs : List Record). raw_rows row (map seen rs)) (drop_more recs i d h)

  pub raws-fault : (recs : List Record) (i : ℕ) (d : Record) (out : List (ℕ × List ℕ)) (all : Option (List (ℕ × List ℕ))) → i < length recs
      → before out (raw_rows row (map seen (drop i recs))) ≡ all → row (little_number 4 (get_or recs i d).entry.now) ≡ None → all ≡ None
  raws-fault recs i d out all h so_far none =
      sym so_far ∙ ap (before out) (raws-more recs i d h ∙ ap (option_and_then (λ (x : List ℕ). first ((get_or recs i d).key, x) (raw_rows row (map seen (drop (i + 1) recs))))) none)

  pub raws-step : (recs : List Record) (i : ℕ) (d : Record) (out : List (ℕ × List ℕ)) (all : Option (List (ℕ × List ℕ))) (x : List ℕ) → i < length recs
      → before out (raw_rows row (map seen (drop i recs))) ≡ all → row (little_number 4 (get_or recs i d).entry.now) ≡ Some x
      → before (out ++ ((get_or recs i d).key, x) ∷ []) (raw_rows row (map seen (drop (i + 1) recs))) ≡ all
  raws-step recs i d out all x h so_far some =
      before-step out ((get_or recs i d).key, x) (raw_rows row (map seen (drop (i + 1) recs)))
      ∙ sym (ap (before out) (raws-more recs i d h ∙ ap (option_and_then (λ (x : List ℕ). first ((get_or recs i d).key, x) (raw_rows row (map seen (drop (i + 1) recs))))) some))
      ∙ so_far

-- what a read past the end of rows would give
abbrev pub no_row : RawRow
no_row = record { id = 0; bytes = record { ref_ptr = (0, 0); now = [] } }

module _ (get : ℕ → Option (List ℕ)) (sub : ℕ → Option (List (List ℕ))) (from : ℕ) (columns : List Column) where
  rows-more : (raws : List RawRow) (i : ℕ) (d : RawRow) → i < length raws
      → rows_of get sub from columns (map raw_seen (drop i raws))
      ≡ option_and_then (λ (r : ℕ × List Val). first r (rows_of get sub from columns (map raw_seen (drop (i + 1) raws)))) (row_of get sub from columns (get_or raws i d).id (get_or raws i d).bytes.now)
  rows-more raws i d h = ap (λ (rs : List RawRow). rows_of get sub from columns (map raw_seen rs)) (drop_more raws i d h)

  pub rows-fault : (raws : List RawRow) (i : ℕ) (d : RawRow) (out : List (ℕ × List Val)) (all : Option (List (ℕ × List Val))) → i < length raws
      → before out (rows_of get sub from columns (map raw_seen (drop i raws))) ≡ all → row_of get sub from columns (get_or raws i d).id (get_or raws i d).bytes.now ≡ None → all ≡ None
  rows-fault raws i d out all h so_far none =
      sym so_far ∙ ap (before out) (rows-more raws i d h ∙ ap (option_and_then (λ (r : ℕ × List Val). first r (rows_of get sub from columns (map raw_seen (drop (i + 1) raws))))) none)

  pub rows-step : (raws : List RawRow) (i : ℕ) (d : RawRow) (out : List (ℕ × List Val)) (all : Option (List (ℕ × List Val))) (r : ℕ × List Val) → i < length raws
      → before out (rows_of get sub from columns (map raw_seen (drop i raws))) ≡ all → row_of get sub from columns (get_or raws i d).id (get_or raws i d).bytes.now ≡ Some r
      → before (out ++ r ∷ []) (rows_of get sub from columns (map raw_seen (drop (i + 1) raws))) ≡ all
  rows-step raws i d out all r h so_far some =
      before-step out r (rows_of get sub from columns (map raw_seen (drop (i + 1) raws)))
      ∙ sym (ap (before out) (rows-more raws i d h ∙ ap (option_and_then (λ (s : ℕ × List Val). first s (rows_of get sub from columns (map raw_seen (drop (i + 1) raws))))) some))
      ∙ so_far
