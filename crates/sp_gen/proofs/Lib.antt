mod ExampleLemmas
mod OntoLemmas
