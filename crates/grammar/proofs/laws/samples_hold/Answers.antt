use Rattle.std.proofs.Common.{refl}
use Rattle.reading.specs.Rows.{row_from}
use Rattle.logic.specs.Basics.{signals, tally}
use Rattle.grammar.specs.Grammar.{r_true, r_name, r_not, r_next, r_until, r_and, as_until, as_and, as_or, as_whole}
use Rattle.grammar.proofs.laws.samples_hold.Goals as goal

pub returns : goal.returns
unfolding row_from signals tally
returns c = record {
  until_to_the_right = (17, as_whole (as_or (as_and (r_until (r_name refl) (r_until (r_name refl) (as_until (r_name refl)))))));
  prefix_binds_tightest = (17, as_whole (as_or (r_and (as_and (r_until (r_not (r_name refl)) (as_until (r_name refl)))) (as_until (r_name refl)))));
  empty = (refl, refl);
  left_open = (refl, refl);
  two_operands = (refl, refl);
  no_arrow = (refl, refl);
  most_tokens = refl;
  one_token_more = (refl, refl);
  twelve_basics = (refl, (_, (64, as_whole (as_or (as_and (as_until (r_next (r_next (r_next (r_next (r_next (r_next (r_next (r_next (r_next (r_next (r_next (r_next r_true)))))))))))))))), refl));
  thirteen_basics = (refl, (_, (69, as_whole (as_or (as_and (as_until (r_next (r_next (r_next (r_next (r_next (r_next (r_next (r_next (r_next (r_next (r_next (r_next (r_next r_true))))))))))))))))), refl));
}
