use Rattle.truncation_list.specs.Books.{AnswersFor}
use Rattle.cabinet.specs.History.{first, standing, whole}
use Rattle.cabinet.specs.Fresh.{cuts_of}
use Rattle.cabinet.proofs.Fresher.{kept_current, still_fresh}
use Rattle.cabinet.proofs.Holding.{bare_opens, holds_of}
use Rattle.cabinet.proofs.Lists.{all_contained}
use Rattle.cabinet.proofs.Moments.{moments_are}
use Rattle.cabinet.proofs.Numbers.{differ_is, render_is, running_is, runs_is, ticket_is}
use Rattle.cabinet.proofs.Disjoint.{regions_are}
use Rattle.cabinet.proofs.Once.{once}
use Rattle.cabinet.proofs.Sentences.{kept_is}
use Rattle.cabinet.proofs.Limits.{covers_are, few_cuts, few_kept, lengths_are}
use Rattle.cabinet.proofs.laws.laws_of_histories.Goals as goal

pub returns : goal.returns
returns c = record {
  bare = bare_opens;
  kept_is = kept_is;
  render_is = render_is;
  ticket_is = ticket_is;
  running_is = running_is;
  runs = runs_is;
  current = kept_current;
  moments = moments_are;
  later = still_fresh;
  holds = holds_of;
  answers = λ c o h cut may has. all_contained (AnswersFor (standing c (first o) h).book) (cuts_of (whole o h)) cut (holds_of c o h may).answers has;
  differ = differ_is;
  once = once;
  lengths = lengths_are;
  few = few_kept;
  covers = covers_are;
  few_cuts = few_cuts;
  regions = regions_are;
}
