use Rattle.pinned_session.proofs.asking.ask_under.Goals as goal

pub returns-clause-answer : goal.returns-clause-answer
returns-clause-answer g c = λ N X held tells.
    c.ask-answer.ensures.answer X
    (record { nodes = tells.shown.nodes; held = record { tells = tells.shown.held; some = N; has = held; stays = c.requires.held; keeps = c.requires.told; counted = c.requires.counted }; at = tells.shown.at; counters = tells.shown.counters })
    tells.knows tells.searches

pub returns-clause-stays : goal.returns-clause-stays
returns-clause-stays g c = λ N X held tells.
    let t = c.ask-answer.ensures.looks.stays tells.shown.nodes (record { tells = tells.shown.held; some = N; has = held; stays = c.requires.held; keeps = c.requires.told; counted = c.requires.counted }) in
    (t.stays, t.keeps, t.counted)
