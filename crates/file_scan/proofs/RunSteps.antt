-- Blocks, run by run.
use Rattle.std.proofs.Common.{All, Err, List, [], ap, arith, drop, get_or, inl, inr, length, refl, subst, suc, sym, take, zero, ℕ, ◌+◌, ◌<◌, ◌∙◌, ◌∷◌, ◌≡◌, ◌≤◌}
use Rattle.std.proofs.lemmas.List.{drop-drop, drop_all, get_or-take, length-take}
use Rattle.data_tree.proofs.ListingLaws.{drop-here}
use Rattle.gate_file.specs.Effective.{effective}
use Rattle.btree_pages.specs.declared.entry.BlockEntry.{BlockEntry}
use Rattle.file_blocks.specs.declared.check.BlockRefusal.{BlockRefusal}
use Rattle.file_blocks.specs.declared.runs.Run.{Run}
use Rattle.file_blocks.specs.Blocks.{AllStand, data_at}
use Rattle.file_blocks.specs.Runs.{IsIn, IsOf, IsRun}
use Rattle.file_blocks.specs.Stops.{IsPlaced}
use Rattle.file_layout.specs.declared.stops.OpenRefusal.TheVariants as refusals
use Rattle.file_layout.specs.declared.stops.OpenStop.{OpenStop}
use Rattle.file_layout.specs.declared.stops.OpenStop.TheVariants.{Refused, Fault, Changed, Memory}
use Rattle.file_scan.specs.Parts.{AllPlaced, StopsAtBlock}
use Rattle.file_scan.specs.Scan.{IsFirstBad}
use Rattle.file_blocks.proofs.FileLaws.{behind_header}
use Rattle.file_scan.proofs.BlockSteps.{Checking}

-- ---- a front of the entries, and those behind it

stand-join : (file : List ℕ) (eof n : ℕ) (es : List BlockEntry) → AllStand file eof (take n es) → AllStand file eof (drop n es) → AllStand file eof es
stand-join file eof zero es front rest = rest
stand-join file eof (suc n) [] front rest = tt
stand-join file eof (suc n) (e ∷ es) front rest = (front.0, stand-join file eof n es front.1 rest)

placed-join : (eof n : ℕ) (es : List BlockEntry) → AllPlaced eof (take n es) → AllPlaced eof (drop n es) → AllPlaced eof es
placed-join eof zero es front rest = rest
placed-join eof (suc n) [] front rest = tt
placed-join eof (suc n) (e ∷ es) front rest = (front.0, placed-join eof n es front.1 rest)

bad-behind : (file : List ℕ) (eof n : ℕ) (es : List BlockEntry) (ib : ℕ) (fault : BlockRefusal) → AllStand file eof (take n es) → IsFirstBad file eof (drop n es) ib fault → IsFirstBad file eof es ib fault
bad-behind file eof zero es ib fault front bad = bad
bad-behind file eof (suc n) [] ib fault front bad = bad
bad-behind file eof (suc n) (e ∷ es) ib fault front bad = inr (front.0, bad-behind file eof n es ib fault front.1 bad)

bad-front : (file : List ℕ) (eof n : ℕ) (es : List BlockEntry) (ib : ℕ) (fault : BlockRefusal) → IsFirstBad file eof (take n es) ib fault → IsFirstBad file eof es ib fault
bad-front file eof zero es ib fault bad = absurd bad
bad-front file eof (suc n) [] ib fault bad = bad
bad-front file eof (suc n) (e ∷ es) ib fault (inl here) = inl here
bad-front file eof (suc n) (e ∷ es) ib fault (inr later) = inr (later.0, bad-front file eof n es ib fault later.1)

-- the first entry is at fault
pub bad-first : (file : List ℕ) (eof : ℕ) (es : List BlockEntry) (d : BlockEntry) (fault : BlockRefusal) → 0 < length es → data_at file eof (get_or es 0 d) ≡ Err fault → IsFirstBad file eof es (get_or es 0 d).at.ib fault
bad-first file eof [] d fault any bad = absurd (omega (arith, any))
bad-first file eof (e ∷ es) d fault any bad = inl (refl, bad)

-- a stop at one of some entries is one at others that have the same first fault
stop-moves : (file : List ℕ) (eof : ℕ) (es fs : List BlockEntry) → ((ib : ℕ) (fault : BlockRefusal) → IsFirstBad file eof es ib fault → IsFirstBad file eof fs ib fault) → (stop : OpenStop) → StopsAtBlock stop file eof es → StopsAtBlock stop file eof fs
stop-moves file eof es fs moves Memory stops = absurd stops
stop-moves file eof es fs moves Fault stops = tt
stop-moves file eof es fs moves (Changed ib stored computed) stops = absurd stops
stop-moves file eof es fs moves (Refused (refusals.Block ib fault)) stops = moves ib fault stops
stop-moves file eof es fs moves (Refused (refusals.Page ib fault)) stops = absurd stops
stop-moves file eof es fs moves (Refused refusals.Empty) stops = absurd stops
stop-moves file eof es fs moves (Refused (refusals.Gate len)) stops = absurd stops
stop-moves file eof es fs moves (Refused (refusals.Short len)) stops = absurd stops
stop-moves file eof es fs moves (Refused (refusals.Header refusal)) stops = absurd stops
stop-moves file eof es fs moves (Refused (refusals.Truncated len end)) stops = absurd stops
stop-moves file eof es fs moves (Refused (refusals.Large end)) stops = absurd stops
stop-moves file eof es fs moves (Refused (refusals.Missing bid)) stops = absurd stops
stop-moves file eof es fs moves (Refused (refusals.Overlap ib)) stops = absurd stops
stop-moves file eof es fs moves (Refused (refusals.Node nid fault)) stops = absurd stops

-- of entries in front
pub stop-front : (file : List ℕ) (eof n : ℕ) (es : List BlockEntry) (stop : OpenStop) → StopsAtBlock stop file eof (take n es) → StopsAtBlock stop file eof es
stop-front file eof n es stop stops = stop-moves file eof (take n es) es (bad-front file eof n es) stop stops

-- of the entries behind those that were checked
pub stop-behind : (file : List ℕ) (eof i : ℕ) (es : List BlockEntry) (stop : OpenStop) → Checking file eof es i → StopsAtBlock stop file eof (drop i es) → StopsAtBlock stop file eof es
stop-behind file eof i es stop checking stops = stop-moves file eof (drop i es) es checking.bad stop stops

-- ---- a run more

pub checking-run : (file : List ℕ) (eof : ℕ) (blocks : List BlockEntry) (i n : ℕ) → Checking file eof blocks i → AllStand file eof (take n (drop i blocks)) → Checking file eof blocks (i + n)
checking-run file eof blocks i n checking stand =
    let rest : drop (i + n) blocks ≡ drop n (drop i blocks) = sym (drop-drop n i blocks) in
    record {
      stand = λ h. checking.stand (stand-join file eof n (drop i blocks) stand (subst (AllStand file eof) rest h));
      bad = λ ib fault h. checking.bad ib fault (bad-behind file eof n (drop i blocks) ib fault stand (subst (λ (es : List BlockEntry). IsFirstBad file eof es ib fault) rest h));
    }

pub placing-run : (eof : ℕ) (blocks : List BlockEntry) (i n : ℕ) → (AllPlaced eof (drop i blocks) → AllPlaced eof blocks) → AllPlaced eof (take n (drop i blocks)) → AllPlaced eof (drop (i + n) blocks) → AllPlaced eof blocks
placing-run eof blocks i n so_far placed rest = so_far (placed-join eof n (drop i blocks) placed (subst (AllPlaced eof) (sym (drop-drop n i blocks)) rest))

-- ---- the entries of a run

placed-all : (eof : ℕ) (es : List BlockEntry) → ((k : ℕ) (d : BlockEntry) → k < length es → IsPlaced eof (get_or es k d)) → AllPlaced eof es
placed-all eof [] each = tt
placed-all eof (e ∷ es) each = (each 0 e (omega arith), placed-all eof es (λ k d within. each (suc k) d (omega (arith, within))))

pub run-placed : (eof : ℕ) (es : List BlockEntry) (run : Run) → IsRun eof es run → AllPlaced eof (take run.count es)
run-placed eof es run is =
    placed-all eof (take run.count es) (λ k d within.
    let less : k < run.count = omega (arith, within, length-take run.count es) in
    subst (IsPlaced eof) (sym (get_or-take run.count es k d less)) (is.placed k d less))

pub run-within : (eof : ℕ) (es : List BlockEntry) (run : Run) → IsRun eof es run → All (IsIn run) (take run.count es)
run-within eof es run is k d within =
    let less : k < run.count = omega (arith, within, length-take run.count es) in
    subst (IsIn run) (sym (get_or-take run.count es k d less)) (is.within k d less)

pub placed-at : (eof : ℕ) (es : List BlockEntry) (i : ℕ) (d : BlockEntry) → AllPlaced eof es → i < length es → IsPlaced eof (get_or es i d)
placed-at eof [] i d placed within = absurd (not-below i within)
  where
    not-below : (n : ℕ) → n < 0 → ⊥
    not-below n h = omega (arith, h)
placed-at eof (e ∷ es) zero d placed within = placed.0
placed-at eof (e ∷ es) (suc i) d placed within = placed-at eof es i d placed.1 (omega (arith, within))

-- the next entry is at fault
pub bad-next : (file : List ℕ) (eof : ℕ) (blocks : List BlockEntry) (i : ℕ) (d : BlockEntry) (fault : BlockRefusal) → i < length blocks → Checking file eof blocks i → data_at file eof (get_or blocks i d) ≡ Err fault
    → IsFirstBad file eof blocks (get_or blocks i d).at.ib fault
bad-next file eof blocks i d fault within checking bad =
    checking.bad (get_or blocks i d).at.ib fault
    (subst (λ (es : List BlockEntry). IsFirstBad file eof es (get_or blocks i d).at.ib fault) (sym (drop-here blocks i d within)) (inl (refl, bad)))

-- all entries were checked
pub checking-end : (file : List ℕ) (eof : ℕ) (blocks : List BlockEntry) (i : ℕ) → length blocks ≤ i → Checking file eof blocks i → AllStand file eof blocks
checking-end file eof blocks i all checking = checking.stand (subst (AllStand file eof) (sym (drop_all i blocks all)) tt)

pub placing-end : (eof : ℕ) (blocks : List BlockEntry) (i : ℕ) → length blocks ≤ i → (AllPlaced eof (drop i blocks) → AllPlaced eof blocks) → AllPlaced eof blocks
placing-end eof blocks i all placing = placing (subst (AllPlaced eof) (sym (drop_all i blocks all)) tt)

-- ---- the bytes of a run

-- what was read of the main part is what the file has
pub run-read : (main side bytes : List ℕ) (run : Run) (n : ℕ) → n ≡ run.len → 0x4400 ≤ run.from → bytes ≡ take n (drop run.from main) → IsOf (effective main side) run bytes
run-read main side bytes run n size above is =
    is ∙ ap (λ (k : ℕ). take k (drop run.from main)) size ∙ behind_header main side run.from run.len (omega (arith, above))
