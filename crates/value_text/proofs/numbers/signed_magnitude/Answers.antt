use Rattle.std.proofs.Common.{◌≡◌, None, false, ap}
use Rattle.std.specs.Option.{option_map}
use Rattle.std.specs.Str.Parse.{starts_with_minus}
use Rattle.std.proofs.Common.{lit<}
use Rattle.std.proofs.lemmas.Str.Pattern.{strip_prefix_char}
use Rattle.value_text.specs.Numbers.{signed_magnitude}
use Rattle.value_text.proofs.NumberLaws.{no-minus}
use Rattle.value_text.proofs.numbers.signed_magnitude.Goals as goal

pub returns-in-Some-magnitude-2 : goal.returns-in-Some-magnitude-2
unfolding signed_magnitude
returns-in-Some-magnitude-2 c =
    let none : starts_with_minus c.args.text.now ≡ false = no-minus _ (strip_prefix_char 45 c.args.text.now None c.in-None.ensures.cases (lit< tt)) in
    rw none (ap (option_map (λ n. (false, n))) c.in-Some-magnitude-2.ensures)

pub returns-in-None-magnitude-2 : goal.returns-in-None-magnitude-2
unfolding signed_magnitude
returns-in-None-magnitude-2 c =
    let none : starts_with_minus c.args.text.now ≡ false = no-minus _ (strip_prefix_char 45 c.args.text.now None c.in-None.ensures.cases (lit< tt)) in
    rw none (ap (option_map (λ n. (false, n))) c.in-None-magnitude-2.ensures)
