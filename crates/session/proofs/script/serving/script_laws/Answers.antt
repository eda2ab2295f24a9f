use Rattle.session.proofs.script.serving.script_laws.Goals as goal

pub returns : goal.returns
returns c =
    let reading = c.one_reading.ensures in
    let closing = c.one_closing.ensures in
    record { some_reading = reading.some; some_closing = closing.some; one_closing = closing.one; front = closing.front; first = closing.first }
