use Rattle.std.proofs.Common.{◌≡◌, ◌++◌, ◌∙◌, ℕ, List, ap}
use Rattle.std.specs.Prelude.{codes, decimal}
use Rattle.http_wire.specs.Writing.{phrase_of}
use Rattle.http_wire.proofs.Written.{on_ok, five_pieces}
use Rattle.http_wire.proofs.write.push_status.Goals as goal

pub returns : goal.returns
returns c =
    let digits : c.as_bytes.result.now ≡ decimal c.args.status = cc (c.in_ok-digits.ensures.ok) in
    let phrase : c.as_bytes-2.result.now ≡ phrase_of c.args.status = c.as_bytes-2.ensures.value ∙ c.phrase_of.ensures in
    on_ok (five_pieces c.args.head.now (codes "HTTP/1.1 ") (decimal c.args.status) (codes " ") (phrase_of c.args.status) (codes "\r\n")
    c.extend.new.self c.extend-2.new.self c.extend-3.new.self c.extend-4.new.self c.extend-5.new.self
    c.in_ok-extend.ensures.ok
    (c.in_ok-extend-2.ensures.ok ∙ ap (λ (l : List ℕ). c.extend.new.self ++ l) digits)
    c.in_ok-extend-3.ensures.ok
    (c.in_ok-extend-4.ensures.ok ∙ ap (λ (l : List ℕ). c.extend-3.new.self ++ l) phrase))
    c.extend-5.result c.extend-5.ensures.ok
