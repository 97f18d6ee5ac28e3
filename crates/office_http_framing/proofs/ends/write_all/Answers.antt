use Rattle.std.proofs.Common.{◌≡◌, ℕ, List, ◌++◌, take, drop, sym, ap, ◌∙◌, append_assoc, arith}
use Rattle.std.proofs.{lemmas.List.take-append-drop, lemmas.List.take_rest, lemmas.Bool.Decides.nat_tests, KnownBytes.Appends-trans}
use Rattle.office_http_framing.proofs.EndLemmas.{NoneStops-trans}
use Rattle.office_http_framing.proofs.ends.write_all.Goals as goal

-- a longer front, and the rest as the code takes it
longer : (bytes front rest : List ℕ) (n : ℕ) → bytes ≡ front ++ rest → bytes ≡ (front ++ take n rest) ++ drop n rest
longer bytes front rest n e =
    e ∙ ap (λ t. front ++ t) (sym (take-append-drop n rest)) ∙ sym (append_assoc front (take n rest) (drop n rest))

pub loop-rest-preserved : goal.loop-rest-preserved
loop-rest-preserved g c =
    let taken = c.loop-rest.invariant.taken in
    let rest = c.loop-rest.rest.now in
    record {
      taken = (
        taken.0 ++ take c.in-Ok.n rest,
        longer c.args.bytes.now taken.0 rest c.in-Ok.n taken.1 ∙ ap (λ t. (taken.0 ++ take c.in-Ok.n rest) ++ t) (sym (take_rest rest c.in-Ok.n)),
        Appends-trans _ _ _ taken.0 (take c.in-Ok.n rest) taken.2 c.in-Ok.ensures.bytes,
      );
      counts = record {
        calls = grind (arith, nat_tests, ap (λ k. k.calls) c.in-Ok.ensures.counts);
        failures = grind (arith, nat_tests, ap (λ k. k.failures) c.in-Ok.ensures.counts);
        empties = grind (arith, nat_tests, ap (λ k. k.empties) c.in-Ok.ensures.counts);
      };
      stops = NoneStops-trans c.loop-rest.invariant.stops (record {
        failures = grind (arith, nat_tests, ap (λ k. k.failures) c.in-Ok.ensures.counts);
        empties = grind (arith, nat_tests, ap (λ k. k.empties) c.in-Ok.ensures.counts);
      });
    }
