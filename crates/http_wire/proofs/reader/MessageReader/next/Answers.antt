use Rattle.std.proofs.Common.{◌≡◌, Some, None, refl, subst, sym, ap, ◌∙◌}
use Rattle.http_wire.specs.Messages.{HoldsMessage}
use Rattle.http_wire.proofs.Fetched.{fetched_of}
use Rattle.http_wire.proofs.MessageEnds.{never, had_ended, goes_on, side_stays}
use Rattle.http_wire.proofs.reader.MessageReader.next.Goals as goal

pub returns-in-Some : goal.returns-in-Some
returns-in-Some g c =
    let is : c.args.self.now.ended ≡ Some c.in-Some.ended = sym (ap (λ v. v.ended) c.self.view_is) ∙ c.in-Some.is in
    record {
      answers = never is;
      leaves = never is;
      ends = never is;
      again = had_ended _ is (c.again.ensures, refl, refl);
      surplus = never is;
      untouched = never is;
      waits = never is;
      cause = never is;
      taken = refl;
      put_faults = refl;
    }

pub returns : goal.returns
returns g c =
    let none : c.args.self.now.ended ≡ None = sym (ap (λ v. v.ended) c.self.view_is) ∙ c.in_default.is in
    let fetches = fetched_of (ap (λ v. v.held) c.self.view_is) c.next_of-answer.ensures.fetches in
    let still = side_stays (g.met.L.Link.take_keeps c.args.link.now) (g.met.L.Link.take_keeps c.next_of-answer.new.source) fetches.apart in
    record {
      answers = λ _. fetches.answers;
      leaves = λ _. fetches.leaves;
      ends = λ _. c.ended_by-self-inside.ensures;
      again = goes_on _ none;
      surplus = λ _. fetches.surplus;
      untouched = λ _ holds. c.next_of-answer.ensures.untouched (subst HoldsMessage (ap (λ v. v.held) (sym c.self.view_is)) holds);
      waits = λ _. fetches.waits;
      cause = λ _. fetches.cause;
      taken = still.0;
      put_faults = still.1;
    }
