use Rattle.std.proofs.Common.{◌≡◌, ◌≢◌, ℕ, ◌+◌, Bool, ◌||◌, sym, ap, ◌∙◌, inr, arith}
use Rattle.std.specs.Prelude.{Ok, Err, ◌==◌, slice_range}
use Rattle.std.proofs.lemmas.Bool.Decides.{nat_tests}
use Rattle.office_http_framing.specs.{Front.is_last, Front.path_of, Fields.closes}
use Rattle.office_http_framing.proofs.FrontLemmas.{part_of_window, faulty_fields, framed_head, body_length-bound}
use Rattle.office_http_framing.proofs.front.front_with_head.Goals as goal
use Rattle.office_http_framing.proofs.front.front_with_head.Goals.{then-head-eq0, else-head-eq0}

first_minor : (version minor : ℕ) (closing : Bool) → version ≡ minor → version ≡ 0 → (version == 0) ≡ ((minor == 0) || closing)
first_minor version minor closing same zero = grind (arith, nat_tests)

later_minor : (minor : ℕ) (closing : Bool) → minor ≢ 0 → closing ≡ ((minor == 0) || closing)
later_minor minor closing e = grind (arith, nat_tests)

pub returns-in-Err : goal.returns-in-Err
returns-in-Err c =
    faulty_fields c.args.bytes.now c.in-Err.fault
    (_, framed_head c.args.bytes.now c.args.start.now c.args.headers.now c.args.head.now c.requires.head.0 c.requires.start c.requires.room c.requires.head.1 (Err c.in-Err.fault) (sym c.body_length.ensures ∙ c.in-Err.is))

pub overflow_add-length : goal.overflow_add-length
overflow_add-length c =
    omega (arith, body_length-bound _ c.in-Ok.size (sym c.body_length.ensures ∙ c.in-Ok.is))

pub returns-then-bytes-length : goal.returns-then-bytes-length
returns-then-bytes-length c =
    let at = c.requires.head.1 in
    inr (record {
      head = c.requires.head.0;
      size = c.in-Ok.size;
      framed = framed_head c.args.bytes.now c.args.start.now c.args.headers.now c.args.head.now c.requires.head.0 c.requires.start c.requires.room at (Ok c.in-Ok.size) (sym c.body_length.ensures ∙ c.in-Ok.is);
      short = omega arith;
    })

pub returns : goal.returns
returns c =
    let at = c.requires.head.1 in
    let last : c.if-head-eq0.request ≡ is_last c.requires.head.0 = elim c.if-head-eq0.branch [
      | then-head-eq0 w ↦ w.request-is ∙ first_minor _ _ _ at.version w.if-head-eq0.true
      | else-head-eq0 w ↦ w.request-is ∙ w.closes.ensures ∙ ap closes at.fields ∙ later_minor _ _ (λ zero. w.if-head-eq0.false (at.version ∙ zero))
    ] in
    record {
      head = c.requires.head.0;
      size = c.in-Ok.size;
      framed = framed_head c.args.bytes.now c.args.start.now c.args.headers.now c.args.head.now c.requires.head.0 c.requires.start c.requires.room at (Ok c.in-Ok.size) (sym c.body_length.ensures ∙ c.in-Ok.is);
      len_is = ap (λ n. n + c.in-Ok.size) at.len;
      whole = c.if-bytes-length.false;
      request_is = λ k. record {
        method = (c.of.ensures ∙ sym (part_of_window c.args.bytes.now c.args.start.now c.args.head.now.method c.requires.start c.args.head.now.len c.requires.within.method c.requires.within.section.len_fits) ∙ at.method) k;
        path = (c.path_of.ensures ∙ ap path_of (c.of-2.ensures ∙ sym (part_of_window c.args.bytes.now c.args.start.now c.args.head.now.path c.requires.start c.args.head.now.len c.requires.within.path c.requires.within.section.len_fits) ∙ at.path)) k;
        body = ap (λ n. slice_range c.args.bytes.now n (c.args.head.now.len + c.in-Ok.size)) at.len k;
        last = last k;
      };
    }
