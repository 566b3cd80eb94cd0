use Rattle.std.proofs.Common.{◌≡◌, ◌<◌, inl, inr, length, take, arith, subst}
use Rattle.resp.specs.Requests.{IsLine}
use Rattle.resp.proofs.Arrays.{within_longer}
use Rattle.resp.proofs.Inlines.{front_is_line, line_short, line_whole, line_bad, byte_cause}
use Rattle.std.proofs.lemmas.List.{take_all}
use Rattle.resp.proofs.inline.inline_at.Goals as goal

pub returns-then-at-bytes-clause-parses : goal.returns-then-at-bytes-clause-parses
returns-then-at-bytes-clause-parses c =
    let bytes = c.args.bytes.now in
    let at = c.plain_len-at.result in
    let most = c.args.limits.line in
    let front = front_is_line most at bytes c.plain_len-at.ensures.within c.plain_len-at.ensures.few c.plain_len-at.ensures.plain c.requires.unmarked in
    let all : take at bytes ≡ bytes = take_all at bytes (omega (arith, c.if-at-bytes.true)) in
    line_short most bytes (subst (IsLine most) all front)

pub returns-then-bytes-at-eq10-clause-parses : goal.returns-then-bytes-at-eq10-clause-parses
returns-then-bytes-at-eq10-clause-parses c =
    let bytes = c.args.bytes.now in
    let at = c.plain_len-at.result in
    let most = c.args.limits.line in
    let within : at < length bytes = omega (arith, c.plain_len-at.ensures.within, c.if-at-bytes.false) in
    let front = front_is_line most at bytes c.plain_len-at.ensures.within c.plain_len-at.ensures.few c.plain_len-at.ensures.plain c.requires.unmarked in (
      take at bytes,
      line_whole most at bytes within front c.if-bytes-at-eq10.true,
      c.in_ok-push_words.ensures.words,
      omega arith,
      within_longer at (length bytes) c.push_words.new.spans.items (omega arith) c.in_ok-push_words.ensures.spans_within,
    )

pub returns-then-at-most-clause-parses : goal.returns-then-at-most-clause-parses
returns-then-at-most-clause-parses c =
    let bytes = c.args.bytes.now in
    let at = c.plain_len-at.result in
    let most = c.args.limits.line in
    let within : at < length bytes = omega (arith, c.plain_len-at.ensures.within, c.if-at-bytes.false) in
    let front = front_is_line most at bytes c.plain_len-at.ensures.within c.plain_len-at.ensures.few c.plain_len-at.ensures.plain c.requires.unmarked in
    (line_bad most at bytes within front c.if-bytes-at-eq10.false (inl c.if-at-most.true), (c.requires.unmarked, c.if-at-most.true))

pub returns-clause-parses : goal.returns-clause-parses
returns-clause-parses c =
    let bytes = c.args.bytes.now in
    let at = c.plain_len-at.result in
    let most = c.args.limits.line in
    let within : at < length bytes = omega (arith, c.plain_len-at.ensures.within, c.if-at-bytes.false) in
    let few : at < most = omega (arith, c.plain_len-at.ensures.few, c.if-at-most.false) in
    let front = front_is_line most at bytes c.plain_len-at.ensures.within c.plain_len-at.ensures.few c.plain_len-at.ensures.plain c.requires.unmarked in
    (line_bad most at bytes within front c.if-bytes-at-eq10.false (inr (c.plain_len-at.ensures.end within few)), byte_cause c.args.limits bytes at c.fault_of.result c.requires.unmarked c.fault_of.ensures)
